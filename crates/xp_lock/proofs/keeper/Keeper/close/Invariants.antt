use Rattle.std.proofs.Common.{◌≡◌, Some, List, ℕ, length}
use Rattle.std.specs.Vec.Iter.{into_iter_items, into_iter_len}
use Rattle.xp_step.specs.declared.entry.Entry.{Entry}
use Rattle.xp_seats.specs.Views.{seen_by}
use Rattle.xp_lock.specs.Closing.{PassesMatch}
use Rattle.xp_lock.specs.steps.Closing.{AreWithin}
use Rattle.xp_lock.proofs.Returned.{ComeBack}
use Rattle.xp_lock.proofs.Taken.{Agree, AreNoted}
use Rattle.xp_lock.proofs.keeper.Keeper.close.Given as goal

abbrev pub invariant-loop-pass : goal.invariant-loop-pass
invariant-loop-pass g l = record {
  can_next : (goal.iterator-loop-pass g).can_next l.pass-iterator;
  is_finite : (goal.iterator-loop-pass g).is_finite l.pass-iterator;
  many : length (into_iter_items l.pass-iterator) ≡ into_iter_len l.pass-iterator;
  table : l.seats.table ≡ g.N.Name.seats;
  fewer : (line : ℕ) (seen : List (Entry _)) → seen_by l.seats.known line ≡ Some seen → seen_by l.initial.seats.known line ≡ Some seen;
  outboxes : l.outboxes.items ≡ l.initial.outboxes.items;
  told : PassesMatch l.fn.self.history (into_iter_items l.pass-iterator) → PassesMatch l.fn.self.history l.fn.passes.items;
  once : ComeBack l.seats.known (into_iter_items l.pass-iterator) → ComeBack l.initial.seats.known l.fn.passes.items;
  lines : length l.taken.items ≡ length l.initial.taken.items;
  within : AreWithin l.taken.items l.fn.self.history;
  noted : (later : List ℕ) → Agree l.seats.known l.taken.items later → AreNoted later (into_iter_items l.pass-iterator) → AreNoted later l.fn.passes.items;
}
