use Rattle.std.proofs.Common.{◌≡◌, ◌+◌, Some, [], drop, length, map}
use Rattle.std.specs.Prelude.{All, replicate}
use Rattle.std.specs.Vec.Iter.{into_iter_items, into_iter_len}
use Rattle.xp_subs.specs.Tables.{line_count}
use Rattle.xp_lock.specs.Opening.{AreFirst}
use Rattle.xp_lock.specs.steps.Opening.{IsUnused}
use Rattle.xp_lock.proofs.start.first_passes.Given as goal

abbrev pub invariant-loop-outbox : goal.invariant-loop-outbox
invariant-loop-outbox g l = record {
  can_next : (goal.iterator-loop-outbox g).can_next l.outbox-iterator;
  is_finite : (goal.iterator-loop-outbox g).is_finite l.outbox-iterator;
  many : length (into_iter_items l.outbox-iterator) ≡ into_iter_len l.outbox-iterator;
  seats : l.seats ≡ record { table = g.N.Name.seats; known = replicate (length l.passes.items) (Some []) };
  passes : AreFirst (length l.passes.items) l.passes.items;
  queues : map (λ end. end.queue) (into_iter_items l.outbox-iterator) ≡ drop (length l.passes.items) g.N.Name.queues;
  unused : All IsUnused (into_iter_items l.outbox-iterator);
  count : length l.passes.items + length (into_iter_items l.outbox-iterator) ≡ line_count g.N.Name.subs;
}
