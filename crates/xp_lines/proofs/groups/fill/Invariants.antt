use Rattle.std.proofs.Common.{◌≡◌, ◌++◌, length}
use Rattle.std.specs.Vec.Iter.{into_iter_items, into_iter_len}
use Rattle.xp_lines.proofs.groups.fill.Given as goal

abbrev pub invariant-loop-place : goal.invariant-loop-place
invariant-loop-place g l = record {
  many : length (into_iter_items l.left) ≡ into_iter_len l.left;
  lines : into_iter_items l.fn.left ≡ l.lines.items ++ into_iter_items l.left;
}
