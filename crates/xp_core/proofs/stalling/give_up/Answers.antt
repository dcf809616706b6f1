use Rattle.std.proofs.Common.{◌≡◌, ◌∙◌, true, false, sym, ap, refl}
use Rattle.xp_machine.specs.Channel.{is_off}
use Rattle.xp_step.specs.StepContext.{step_context}
use Rattle.xp_machine.specs.World.{state_at}
use Rattle.xp_core.proofs.Stalls.{makes_fall, makes_nothing}
use Rattle.xp_core.proofs.stalling.give_up.Goals as goal

pub returns-then-is_off-clause-makes : goal.returns-then-is_off-clause-makes
returns-then-is_off-clause-makes g c =
    let at = step_context c.args.subs.now.opening c.args.before.now.items c.args.machine.now c.args.event.now.line c.args.event.now.moment in
    let off : is_off (state_at at.world at.line) ≡ true = sym (ap is_off c.line.ensures.state) ∙ sym c.is_off.ensures ∙ c.if-is_off.true in
    let made = c.unused.ensures in
    makes_nothing at c.unused.result at.world made.outcome off made.outputs made.records refl

pub returns-clause-makes : goal.returns-clause-makes
returns-clause-makes g c =
    let at = step_context c.args.subs.now.opening c.args.before.now.items c.args.machine.now c.args.event.now.line c.args.event.now.moment in
    let on : is_off (state_at at.world at.line) ≡ false = sym (ap is_off c.line.ensures.state) ∙ sym c.is_off.ensures ∙ c.if-is_off.false in
    let made = c.fall-work.ensures.fallen in
    makes_fall at c.fall-work.result c.go_out.new.self made.plain on made.outputs made.records c.go_out.ensures
