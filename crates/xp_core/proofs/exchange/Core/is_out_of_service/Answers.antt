use Rattle.std.proofs.Common.{ap, ◌∙◌}
use Rattle.xp_machine.specs.Channel.{is_off}
use Rattle.xp_step.specs.Exchange.{world_of}
use Rattle.xp_machine.specs.World.{state_at}
use Rattle.xp_core.proofs.exchange.Core.is_out_of_service.Goals as goal

pub returns : goal.returns
returns g c =
    c.is_off.ensures ∙ ap is_off c.line.ensures.state
    ∙ ap (λ w. is_off (state_at w c.args.line)) (c.self.invariant.core.shown ∙ ap world_of c.self.view_is)
