use Rattle.std.proofs.Common.{◌≡◌, ◌+◌, ◌-◌, ◌^◌, suc, Option, Some, List, [], ◌∷◌, ◌++◌, ap, arith, drop, length, length-append, map, subst, sym, ◌∙◌}
use Rattle.std.proofs.lemmas.List.{length-replicate, replicate_more}
use Rattle.std.proofs.lemmas.List.Elements.{All-head, All-tail}
use Rattle.std.specs.Prelude.{All, min, replicate, slice_get}
use Rattle.std.specs.Vec.Iter.{into_iter_items}
use Rattle.xp_outbox.specs.Ends.{Taking}
use Rattle.xp_subs.specs.Tables.{line_count, modulus_of}
use Rattle.xp_step.specs.declared.entry.Entry.{Entry}
use Rattle.xp_step.specs.declared.output.Outgoing.{Outgoing}
use Rattle.xp_lock.specs.Opening.{AreFirst}
use Rattle.xp_lock.specs.steps.Opening.{IsUnused}
use Rattle.xp_lock.specs.Outgoing.{put_out_to}
use Rattle.xp_lock.specs.Passes.{Pass}
use Rattle.xp_seats.specs.Views.{Seats}
use Rattle.xp_lock.proofs.Opened.{at_front, drop_rest, first_push}
use Rattle.xp_lock.proofs.start.first_passes.Goals as goal

pub invariant_of-push : goal.invariant_of-push
invariant_of-push g c =
    let was = c.loop-outbox.invariant in
    let n = length c.loop-outbox.passes.items in
    let items = c.in-Some.ensures.steps.0 in
    let seat = c.next-seat.ensures.seat in
    let line = c.len-line.result in
    let same : line ≡ n = c.len-line.ensures ∙ c.loop-outbox.passes.ok.0 in
    let number = ap (λ (s : Seats _). length s.known) was.seats ∙ length-replicate {A = Option (List (Entry _))} n (Some []) in
    let left = ap length items in
    let all = was.count in
    let queues = g.N.Name.queues in
    let Empty : Taking (Outgoing _) → Type 0 = IsUnused in
    let new = All-head Empty c.in-Some.outbox _ (subst (All Empty) items was.unused) in (
      ap (λ s. s.table) seat ∙ ap (λ (s : Seats _). s.table) was.seats,
      ap (λ s. s.holder) seat ∙ number ∙ sym same,
      omega (arith, left, all, same),
      c.modulus_of.ensures ∙ ap (λ t. modulus_of t line) c.requires.subs,
      subst (λ m. slice_get queues m ≡ Some c.in-Some.outbox.queue) (sym same) (at_front queues n c.in-Some.outbox.queue _ (sym was.queues ∙ ap (map (λ end. end.queue)) items)),
      sym (ap (λ (taken : List (Outgoing _)). min (length taken) (2 ^ 64 - 1)) new.0),
      new.1 ∙ ap (put_out_to line) (sym (ap (λ s. s.seen) seat)),
    )

pub loop-outbox-preserved : goal.loop-outbox-preserved
loop-outbox-preserved g c =
    let was = c.loop-outbox.invariant in
    let passes = c.loop-outbox.passes.items in
    let n = length passes in
    let after = c.push.new.self.items in
    let items = c.in-Some.ensures.steps.0 in
    let fewer = c.in-Some.ensures.steps.1 in
    let rest = into_iter_items c.next.new.self in
    let left = ap length items in
    let all = was.count in
    let many = was.many in
    let pushed = c.in_ok-push.ensures.items in
    let Empty : Taking (Outgoing _) → Type 0 = IsUnused in
    let ends = subst (All Empty) items was.unused in
    let same : c.len-line.result ≡ n = c.len-line.ensures ∙ c.loop-outbox.passes.ok.0 in
    let pass : Pass _ = record { line = c.len-line.result; seen = c.next-seat.result.seen; taken = c.in-Some.outbox.taken } in
    let long : length after ≡ n + 1 = let by = ap length pushed in omega (arith, by, length-append passes (pass ∷ [])) in
    let seen : c.next-seat.result.seen ≡ [] = ap (λ s. s.seen) c.next-seat.ensures.seat in
    let first = first_push n passes pass was.passes (λ i. record { line = same i; seen = seen i; taken = (All-head Empty c.in-Some.outbox rest ends).0 i }) in
    record {
      can_next = tt;
      is_finite = tt;
      many = omega (arith, left, fewer, many);
      seats =
          c.next-seat.ensures.seats ∙ ap (λ (s : Seats _). record s { known = s.known ++ Some [] ∷ [] }) was.seats
          ∙ ap (λ known. record { table = g.N.Name.seats; known = known }) (replicate_more n (Some []))
          ∙ ap (λ m. record { table = g.N.Name.seats; known = replicate m (Some []) }) (sym long);
      passes = subst (λ m. AreFirst m after) (sym long) (subst (AreFirst (n + 1)) (sym pushed) first);
      queues = sym (drop_rest g.N.Name.queues n c.in-Some.outbox.queue _ (sym was.queues ∙ ap (map (λ end. end.queue)) items))
          ∙ ap (λ m. drop m g.N.Name.queues) (let next : suc n ≡ length after = omega (arith, long) in next);
      unused = All-tail Empty c.in-Some.outbox rest ends;
      count = omega (arith, left, all, long);
    }

pub modulus_of-requires : goal.modulus_of-requires
modulus_of-requires g c =
    let was = c.loop-outbox.invariant in
    let left = ap length c.in-Some.ensures.steps.0 in
    let all = was.count in
    let same : c.len-line.result ≡ length c.loop-outbox.passes.items = c.len-line.ensures ∙ c.loop-outbox.passes.ok.0 in
    let lines = ap line_count c.requires.subs in
    omega (arith, left, all, same, lines)
