use Rattle.std.proofs.Common.{◌∙◌, ◌≤◌, ap, arith, length, length-append, ◌∷◌, [], subst, sym}
use Rattle.xp_step.specs.Exchange.{Advances, Exchange}
use Rattle.xp_step.specs.Stalls.{left_after}
use Rattle.xp_lock.specs.steps.Given.{with_lines}
use Rattle.xp_lock.specs.steps.Stalling.{with_outboxes}
use Rattle.xp_lock.proofs.Forcing.{Entering, begins, few_first, few_given, goes_on, has_place, is_line, is_prepared, kept, left_least, room, room_first, stalls_left, taken}
use Rattle.xp_lock.proofs.entering.enter.Goals as goal

pub put_out-requires-clause-room : goal.put_out-requires-clause-room
put_out-requires-clause-room g c =
    room_first c.args.core.now _ _ _ _ c.requires.can c.count-legal.ensures.run c.in-Ok.ensures.ok c.in-Ok.ensures.few

pub put_out-requires-clause-few : goal.put_out-requires-clause-few
put_out-requires-clause-few g c =
    subst (λ lines. length (with_lines lines c.in-Ok.entry.outputs) ≤ 3) (sym c.new-given.ensures)
    (few_first c.args.core.now _ _ _ _ c.requires.can c.count-legal.ensures.run c.in-Ok.ensures.ok c.in-Ok.ensures.few)

pub loop-slow-init : goal.loop-slow-init
loop-slow-init g c =
    let core = c.put_out.ensures.core in
    begins c.args.core.now _ _ _ _ c.requires.can c.count-legal.ensures.run
    (subst (λ e. Advances c.args.core.now c.args.event e c.in-Ok.entry) (sym core) c.in-Ok.ensures.ok) c.in-Ok.ensures.few _
    c.put_out.ensures.outboxes _ c.requires.prepared (ap (λ e. e.stalls) core ∙ c.in-Ok.ensures.stalls)
    _ (c.put_out.ensures.given ∙ ap (λ lines. with_lines lines c.in-Ok.entry.outputs) c.new-given.ensures)

pub stall-outputs-requires-clause-line : goal.stall-outputs-requires-clause-line
stall-outputs-requires-clause-line g c =
    is_line _ _ c.requires.can _ _ _ _ _ _ c.loop-slow.invariant c.in-Some.ensures.searched c.in-Some.slow c.in-Some.ensures.due

pub stall-outputs-requires-clause-prepared : goal.stall-outputs-requires-clause-prepared
stall-outputs-requires-clause-prepared g c =
    is_prepared _ _ c.requires.can _ _ _ _ _ _ c.loop-slow.invariant c.in-Some.ensures.searched c.in-Some.slow c.in-Some.ensures.due

pub stall-outputs-requires-clause-place : goal.stall-outputs-requires-clause-place
stall-outputs-requires-clause-place g c =
    has_place _ _ c.requires.can _ _ _ _ _ _ c.loop-slow.invariant c.in-Some.ensures.searched c.in-Some.slow c.in-Some.ensures.due

pub put_out-requires-in-Some-clause-room : goal.put_out-requires-in-Some-clause-room
put_out-requires-in-Some-clause-room g c =
    room _ _ c.requires.can _ _ _ _ _ _ c.loop-slow.invariant c.in-Some.ensures.searched c.in-Some.slow c.in-Some.ensures.due c.stall-outputs.ensures.run _ _ c.stall-outputs.ensures.advances

pub put_out-requires-in-Some-clause-few : goal.put_out-requires-in-Some-clause-few
put_out-requires-in-Some-clause-few g c =
    few_given _ _ c.requires.can _ _ _ _ _ _ c.loop-slow.invariant c.in-Some.ensures.searched c.in-Some.slow c.in-Some.ensures.due c.stall-outputs.ensures.run _ _ c.stall-outputs.ensures.advances

pub loop-slow-smaller : goal.loop-slow-smaller
loop-slow-smaller g c =
    let place = has_place _ _ c.requires.can _ _ _ _ _ _ c.loop-slow.invariant c.in-Some.ensures.searched c.in-Some.slow c.in-Some.ensures.due in
    let advances = c.stall-outputs.ensures.advances in
    let limit = ap (λ e. e.subs.journal) c.put_out-in-Some.ensures.core ∙ ap (λ t. t.journal) advances.subs in
    let longer = ap (λ e. length e.history) c.put_out-in-Some.ensures.core ∙ ap length advances.history in
    omega (arith, place, limit, longer, length-append c.loop-slow.core.history (c.stall-outputs.result ∷ []))

pub loop-slow-preserved : goal.loop-slow-preserved
loop-slow-preserved g c =
    let P : Exchange _ → Type 0 = λ e.
    Entering (with_outboxes c.args.core.now c.args.outboxes.now.items) c.args.event e c.put_out-in-Some.new.outboxes.items c.in-Ok.entry.number c.put_out-in-Some.new.given.items
    (left_after c.args.event.what c.args.core.now.stalls) in
    subst P (sym c.put_out-in-Some.ensures.core)
    (goes_on _ _ c.requires.can _ _ _ _ _ _ c.loop-slow.invariant c.in-Some.ensures.searched c.in-Some.slow c.in-Some.ensures.due c.stall-outputs.ensures.run _ _ c.stall-outputs.ensures.advances
    _ c.put_out-in-Some.ensures.outboxes c.stall-outputs.ensures.stalls _ c.put_out-in-Some.ensures.given)

pub returns-clause-ok : goal.returns-clause-ok
returns-clause-ok g c =
    taken _ _ c.requires.can _ _ _ _ _ _ c.loop-slow.invariant c.in_default.ensures.searched c.in_default.ensures.due _ c.new.ensures.entry c.new.ensures.records c.new.ensures.connection c.new.ensures.given

pub returns-clause-kept : goal.returns-clause-kept
returns-clause-kept g c =
    kept _ _ c.requires.can _ _ _ _ _ _ c.loop-slow.invariant c.in_default.ensures.searched c.in_default.ensures.due _ c.new.ensures.entry c.new.ensures.records c.new.ensures.connection c.new.ensures.given

pub returns-clause-stalls : goal.returns-clause-stalls
returns-clause-stalls g c =
    let left = stalls_left _ _ c.requires.can _ _ _ _ _ _ c.loop-slow.invariant c.in_default.ensures.searched in
    let least = left_least c.args.event.what c.args.core.now.stalls in
    omega (arith, left, least)
