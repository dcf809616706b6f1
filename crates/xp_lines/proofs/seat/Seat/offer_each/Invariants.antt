use Rattle.std.proofs.Common.{◌≡◌, length}
use Rattle.std.specs.Vec.Iter.{into_iter_items, into_iter_len}
use Rattle.xp_lines.proofs.Offered.{TakenSoFar}
use Rattle.xp_lines.proofs.seat.Seat.offer_each.Given as goal

abbrev pub invariant-loop-next : goal.invariant-loop-next
invariant-loop-next g l = record {
  many : length (into_iter_items l.next-iterator) ≡ into_iter_len l.next-iterator;
  so_far : TakenSoFar l.fn.self.pass l.fn.ready.items (into_iter_items l.next-iterator) l.self.pass;
}
