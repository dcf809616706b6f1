use Rattle.std.proofs.Common.{◌≡◌, List, ap, refl, subst, arith, ◌∙◌}
use Rattle.xp_step.specs.declared.event.Event.{Event}
use Rattle.xp_step.specs.Plan.{Plans}
use Rattle.xp_step.specs.StepContext.{step_context}
use Rattle.xp_step.specs.Table.{action_at}
use Rattle.xp_core.specs.steps.PreparedEntry.{IsPreparedEntry}
use Rattle.xp_core.proofs.Showing.{works_out}
use Rattle.xp_core.proofs.Stalls.{stall_is}
use Rattle.xp_core.proofs.advance.prepare_entry.Goals as goal

pub returns-in-Some-clause-ok : goal.returns-in-Some-clause-ok
returns-in-Some-clause-ok g c =
    let before = c.args.journal.now.history in
    let same : c.history-before.result.now.items ≡ before = c.history-before.ensures ∙ ap (λ j. j.history) c.in-Some.ensures.some.1.is in
    let made : Event _ → List _ → Type 0 = λ event entries.
    IsPreparedEntry c.args.subs.now.opening entries c.args.machine.now c.args.relays.now event c.give_up.result c.give_up.new.machine c.args.relays.now in
    subst (made c.args.event.now) same (subst (λ event. made event c.history-before.result.now.items) (stall_is c.args.event.now c.in-Some.ensures.some.0) (c.give_up.ensures.makes c.args.relays.now))

pub apply-requires-clause-connection : goal.apply-requires-clause-connection
apply-requires-clause-connection g c = λ line. omega (arith, c.requires.sound.connection line)

pub returns-clause-ok : goal.returns-clause-ok
returns-clause-ok g c =
    let P : List _ → Type 0 = λ before.
    Plans (step_context c.args.subs.now.opening before c.args.machine.now c.args.event.now.line c.args.event.now.moment) c.args.event.now.what (action_at c.args.machine.now c.args.event.now) c.in_ok-outcome.field-0 in
    works_out c.args.subs.now.opening c.args.journal.now.history c.args.machine.now c.args.event.now c.in_ok-outcome.field-0 _ c.apply.new.self
    c.args.relays.now c.put_if_any.new.self
    (subst P (c.history.ensures ∙ ap (λ j. j.history) c.in_default.ensures.none.0) c.in_ok-outcome.ensures) refl c.into_outputs-outputs.ensures refl c.in_ok-apply.ensures.ok c.put_if_any.ensures
