use Rattle.std.proofs.Common.{◌≡◌, ◌<◌, Some, ap, arith, refl, set, subst, sym, ◌∙◌}
use Rattle.std.specs.Prelude.{slice_get}
use Rattle.xp_subs.specs.Tables.{line_count}
use Rattle.xp_seats.specs.Views.{seen_by}
use Rattle.xp_lock.specs.Locked.{Takes}
use Rattle.xp_lock.specs.Passes.{GainsEvent, IsLegal, Pass}
use Rattle.xp_lock.specs.steps.Keeping.{IsKept}
use Rattle.xp_lock.proofs.Fresh.{gains}
use Rattle.xp_lock.proofs.Kept.{kept_looked, kept_taken, taken_viewed, viewed}
use Rattle.xp_lock.proofs.Queues.{same_queues}
use Rattle.xp_lock.proofs.Ready.{alike_same, are_alike}
use Rattle.xp_lock.proofs.keeper.Keeper.offer.Goals as goal

pub has_room-requires : goal.has_room-requires
has_room-requires g c =
    let within = c.pass.invariant.2 in
    let here = ap (λ p. p.line) c.pass.view_is in
    let mine = c.requires.line in
    let count = c.self.invariant.matches.count in
    let lines = ap line_count c.self.invariant.subs_are in
    omega (arith, within, here, mine, count, lines)

-- it looked at the free places of the line
pub invariant_of-self : goal.invariant_of-self
invariant_of-self g c =
    let inside = c.self.inside in
    kept_looked g.N.Name.subs g.N.Name.queues g.N.Name.seats inside.core inside.outboxes.items inside.seats c.self.invariant inside.core c.has_room.new.outboxes.items
    (are_alike _ _ _ _ c.has_room.ensures.looks) refl

pub invariant_of-self-then-is_err : goal.invariant_of-self-then-is_err
invariant_of-self-then-is_err g c =
    let inside = c.self.inside in
    kept_looked g.N.Name.subs g.N.Name.queues g.N.Name.seats inside.core inside.outboxes.items inside.seats c.self.invariant c.reserve_stalls.new.self c.has_room.new.outboxes.items
    (are_alike _ _ _ _ c.has_room.ensures.looks) c.reserve_stalls.ensures.rest

pub enter-requires-clause-line : goal.enter-requires-clause-line
enter-requires-clause-line g c =
    let within = c.pass.invariant.2 in
    let here = ap (λ p. p.line) c.pass.view_is in
    let mine = c.requires.line in
    let lines = ap line_count c.self.invariant.subs_are in
    let same = ap (λ e. line_count e.subs) c.reserve_stalls.ensures.rest in
    omega (arith, within, here, mine, lines, same)

pub invariant_of-self-in_err-done : goal.invariant_of-self-in_err-done
invariant_of-self-in_err-done g c =
    let inside = c.self.inside in
    let core = c.reserve_stalls.new.self in
    let looked = kept_looked g.N.Name.subs g.N.Name.queues g.N.Name.seats inside.core inside.outboxes.items inside.seats c.self.invariant core c.has_room.new.outboxes.items
    (are_alike _ _ _ _ c.has_room.ensures.looks) c.reserve_stalls.ensures.rest in
    subst (λ e. IsKept g.N.Name.subs g.N.Name.queues g.N.Name.seats e c.enter.new.outboxes.items inside.seats) (sym c.in_err-done.ensures.core)
    (subst (λ boxes. IsKept g.N.Name.subs g.N.Name.queues g.N.Name.seats core boxes inside.seats) (sym c.in_err-done.ensures.outboxes) looked)

pub tell_put-requires : goal.tell_put-requires
tell_put-requires g c =
    let inside = c.self.inside in
    let between = c.has_room.new.outboxes.items in
    let after = c.enter.new.outboxes.items in
    let looked = kept_looked g.N.Name.subs g.N.Name.queues g.N.Name.seats inside.core inside.outboxes.items inside.seats c.self.invariant c.reserve_stalls.new.self between
    (are_alike _ _ _ _ c.has_room.ensures.looks) c.reserve_stalls.ensures.rest in
    let takes = c.in_ok-done.ensures.ok between (record { count = refl; each = λ line. alike_same _ }) in
    record {
      queue = subst (λ names. slice_get names c.pass.inside.line ≡ Some c.pass.inside.outbox.queue)
          (sym (same_queues between after takes.filled.count (λ line. (takes.filled.each line).queue) ∙ looked.queues_are)) c.pass.invariant.4;
    }

pub invariant_of-self-2 : goal.invariant_of-self-2
invariant_of-self-2 g c =
    let inside = c.self.inside in
    let core = c.reserve_stalls.new.self in
    let between = c.has_room.new.outboxes.items in
    let next = c.enter.new.core in
    let after = c.enter.new.outboxes.items in
    let line = c.args.event.line in
    let looked = kept_looked g.N.Name.subs g.N.Name.queues g.N.Name.seats inside.core inside.outboxes.items inside.seats c.self.invariant core between
    (are_alike _ _ _ _ c.has_room.ensures.looks) c.reserve_stalls.ensures.rest in
    let takes = c.in_ok-done.ensures.ok between (record { count = refl; each = λ l. alike_same _ }) in
    let here = ap (λ p. p.line) c.pass.view_is in
    let mine : c.pass.inside.line ≡ line = here ∙ sym c.requires.line in
    let within : line < line_count g.N.Name.subs = subst (λ l. l < line_count g.N.Name.subs) mine c.pass.invariant.2 in
    let kept = kept_taken g.N.Name.subs g.N.Name.queues g.N.Name.seats core between inside.seats looked next after c.args.event c.in_ok-done.done takes c.requires.kind within
    c.in_ok-done.ensures.kept in
    let shown = c.show.ensures.seats ∙ ap (λ l. record inside.seats { known = set inside.seats.known l (Some next.history) }) (c.pass.invariant.1 ∙ mine) in
    subst (λ seats. IsKept g.N.Name.subs g.N.Name.queues g.N.Name.seats next c.tell_put.new.outboxes.items seats) (sym shown)
    (subst (λ boxes. IsKept g.N.Name.subs g.N.Name.queues g.N.Name.seats next boxes (record inside.seats { known = set inside.seats.known line (Some next.history) })) (sym c.tell_put.ensures.outboxes) kept)

pub returns-clause-takes : goal.returns-clause-takes
returns-clause-takes g c =
    let inside = c.self.inside in
    let event = c.args.event in
    let done = c.in_ok-done.done in
    let last = c.tell_put.new.outboxes.items in
    subst (λ old. Takes old event done (viewed c.enter.new.core last inside.halted)) c.self.view_is
    (taken_viewed inside.core c.reserve_stalls.new.self c.enter.new.core inside.outboxes.items c.enter.new.outboxes.items last inside.halted event done c.if-self.false
    c.reserve_stalls.ensures.rest c.tell_put.ensures.outboxes (c.in_ok-done.ensures.ok inside.outboxes.items (are_alike _ _ _ _ c.has_room.ensures.looks)))

pub returns-clause-ok : goal.returns-clause-ok
returns-clause-ok g c =
    let inside = c.self.inside in
    let here = c.pass.inside in
    let core = c.reserve_stalls.new.self in
    let between = c.has_room.new.outboxes.items in
    let next = c.enter.new.core in
    let looked = kept_looked g.N.Name.subs g.N.Name.queues g.N.Name.seats inside.core inside.outboxes.items inside.seats c.self.invariant core between
    (are_alike _ _ _ _ c.has_room.ensures.looks) c.reserve_stalls.ensures.rest in
    let takes = c.in_ok-done.ensures.ok between (record { count = refl; each = λ l. alike_same _ }) in
    let before : Pass _ = record { line = here.line; seen = here.seat.seen; taken = here.outbox.taken } in
    let after : Pass _ = record { line = here.line; seen = c.show.new.seat.seen; taken = c.tell_put.new.taken.taken } in
    let agree = c.show.ensures.agree in
    let front = looked.fronts.fronts here.seat.holder here.seat.seen agree in
    let all = looked.fronts.own here.line here.seat.seen c.pass.invariant.2 (ap (seen_by inside.seats.known) (sym c.pass.invariant.1) ∙ agree) in
    let legal : IsLegal core.subs next.history = subst (λ t. IsLegal t next.history) (ap (λ l. l.subs) takes.rest) c.count-legal.ensures.run in
    let gained = gains _ c.args.event c.in_ok-done.done _ takes before c.requires.kind (c.requires.line ∙ sym (ap (λ p. p.line) c.pass.view_is)) front all legal in
    let seen = ap (λ s. s.seen) c.show.ensures.seat in
    let taken = ap (λ e. e.taken) c.tell_put.ensures.told in
    subst (λ p. GainsEvent g.N.Name.subs p c.args.event c.in_ok-done.done after) c.pass.view_is
    (subst (λ p. GainsEvent g.N.Name.subs before c.args.event c.in_ok-done.done p) (λ i. record { line = here.line; seen = sym seen i; taken = sym taken i })
    (subst (λ t. GainsEvent t before c.args.event c.in_ok-done.done (record before { seen = next.history })) looked.subs_are gained))
