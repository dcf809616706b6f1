use Rattle.std.proofs.Common.{ap, ◌∙◌}
use Rattle.xp_step.specs.Exchange.{Exchange}
use Rattle.xp_step.specs.InForce.{in_force}
use Rattle.xp_core.proofs.exchange.Core.in_force.Goals as goal

pub returns : goal.returns
returns g c =
    let F : Exchange _ → _ = λ core. in_force core.subs core.history in
    c.in_force.ensures ∙ c.self.invariant.force ∙ ap F c.self.view_is
