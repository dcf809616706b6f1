use Rattle.std.proofs.Common.{◌+◌, ◌<◌, ◌≤◌, ◌∙◌, ◌++◌, ap, arith, length, subst, sym}
use Rattle.std.specs.Prelude.{slice_index_or}
use Rattle.xp_core.specs.Reload.{reload_at}
use Rattle.xp_step.specs.Exchange.{Advances, Exchange}
use Rattle.xp_step.proofs.InForce.{run_frame}
use Rattle.xp_lock.proofs.GivingUp.{GivingUp, begins, can, goes_on, is_line, item_is, none_left, passes}
use Rattle.xp_lock.proofs.Reloads.{forced_on, matches, reloads}
use Rattle.xp_lock.proofs.giving_up.bring_into_force.Goals as goal
use Rattle.xp_lock.proofs.giving_up.bring_into_force.Goals.{then-not-is_out_of_service, else-not-is_out_of_service}

pub loop-line-init : goal.loop-line-init
loop-line-init g c =
    let ready = c.requires.prepared in
    begins c.args.core.now c.args.outboxes.now.items c.args.next c.args.moment c.args.prepared.going.items ready.may ready.going ready.places ready.stalls c.requires.kept c.count-legal.ensures.run

pub give_up-requires-clause-line : goal.give_up-requires-clause-line
give_up-requires-clause-line g c =
    let value = c.as_slice-line-items.ensures.value in
    let within = c.loop-line-test.true in
    is_line _ _ _ _ _ c.requires.prepared.going _ _ _ c.loop-line.invariant _ (subst (λ xs. c.loop-line.line-index < length xs) value within) (item_is _ _ _ value within)
    (sym c.is_out_of_service.ensures ∙ c.if-not-is_out_of_service.true) (sym (run_frame _ _ _ c.count-legal.ensures.run).count)

pub give_up-requires-clause-can : goal.give_up-requires-clause-can
give_up-requires-clause-can g c =
    let value = c.as_slice-line-items.ensures.value in
    let within = c.loop-line-test.true in
    can _ _ _ _ _ c.requires.prepared.going _ _ _ c.loop-line.invariant _ (subst (λ xs. c.loop-line.line-index < length xs) value within) (item_is _ _ _ value within)
    (sym c.is_out_of_service.ensures ∙ c.if-not-is_out_of_service.true)

pub loop-line-preserved : goal.loop-line-preserved
loop-line-preserved g c =
    let value = c.as_slice-line-items.ensures.value in
    let test = c.loop-line-test.true in
    let within = subst (λ xs. c.loop-line.line-index < length xs) value test in
    let line = slice_index_or c.as_slice-line-items.result.now c.loop-line.line-index 0 in
    let going = c.args.prepared.going.items in
    let Next : Exchange _ → _ → Type 0 = λ core outboxes. GivingUp c.args.core.now c.args.outboxes.now.items c.args.next c.args.moment going core outboxes (c.loop-line.line-index + 1) in
    elim c.if-not-is_out_of_service.branch [
      | then-not-is_out_of_service w ↦
          subst (λ core. Next core c.if-not-is_out_of_service.outboxes.items) (sym w.core-is)
          (subst (λ (outboxes : _). Next w.give_up.new.core outboxes.items) (sym w.outboxes-is)
          (goes_on _ _ _ _ _ c.requires.prepared.going _ _ _ c.loop-line.invariant line within (item_is _ _ _ value test)
          (sym c.is_out_of_service.ensures ∙ w.if-not-is_out_of_service.true) _ _ w.give_up.ensures.done w.give_up.ensures.kept w.give_up.ensures.stalls))
      | else-not-is_out_of_service w ↦
          subst (λ core. Next core c.if-not-is_out_of_service.outboxes.items) (sym w.core-is)
          (subst (λ (outboxes : _). Next c.loop-line.core outboxes.items) (sym w.outboxes-is)
          (passes _ _ _ _ _ c.requires.prepared.going _ _ _ c.loop-line.invariant line within (item_is _ _ _ value test)
          (sym c.is_out_of_service.ensures ∙ w.if-not-is_out_of_service.false)))
    ]

pub returns-clause-reloads : goal.returns-clause-reloads
returns-clause-reloads g c =
    let past = subst (λ xs. length xs ≤ c.loop-line.line-index) c.as_slice-line-items.ensures.value c.loop-line-test.false in
    let none = none_left _ _ _ _ _ c.requires.prepared.going _ _ _ c.loop-line.invariant past in
    let taken = c.take_records_into.ensures in
    let advances = subst (λ core. Advances core (reload_at c.args.moment) c.reload.new.self c.in-Ok.field-0) taken.is c.in-Ok.ensures.ok in
    reloads _ _ _ _ _ c.requires.prepared.may _ _ _ c.loop-line.invariant none _ _ advances c.in-Ok.ensures.brought c.in-Ok.ensures.quiet _
    (taken.taken ∙ ap (λ xs. xs ++ c.loop-line.core.waiting) c.requires.prepared.empty)

pub returns-clause-kept : goal.returns-clause-kept
returns-clause-kept g c =
    let past = subst (λ xs. length xs ≤ c.loop-line.line-index) c.as_slice-line-items.ensures.value c.loop-line-test.false in
    let none = none_left _ _ _ _ _ c.requires.prepared.going _ _ _ c.loop-line.invariant past in
    let advances = subst (λ core. Advances core (reload_at c.args.moment) c.reload.new.self c.in-Ok.field-0) c.take_records_into.ensures.is c.in-Ok.ensures.ok in
    let counted = c.count-within.ensures.count in
    let within = c.count-within.ensures.within in
    matches _ _ _ _ _ c.requires.prepared.may _ _ _ c.loop-line.invariant none _ _ advances c.in-Ok.ensures.brought c.in-Ok.ensures.quiet (omega (arith, counted, within))

pub returns-clause-forced : goal.returns-clause-forced
returns-clause-forced g c =
    let past = subst (λ xs. length xs ≤ c.loop-line.line-index) c.as_slice-line-items.ensures.value c.loop-line-test.false in
    let none = none_left _ _ _ _ _ c.requires.prepared.going _ _ _ c.loop-line.invariant past in
    let advances = subst (λ core. Advances core (reload_at c.args.moment) c.reload.new.self c.in-Ok.field-0) c.take_records_into.ensures.is c.in-Ok.ensures.ok in
    forced_on _ _ _ _ _ c.requires.prepared.may _ _ _ c.loop-line.invariant none _ _ advances c.in-Ok.ensures.brought c.in-Ok.ensures.quiet
