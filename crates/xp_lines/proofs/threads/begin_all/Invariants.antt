use Rattle.std.proofs.Common.{◌≡◌, ◌+◌, ◌≤◌, ◌++◌, length}
use Rattle.std.specs.Prelude.{vec_capacity, vec_len}
use Rattle.std.specs.Vec.Iter.{into_iter_items, into_iter_len}
use Rattle.xp_lines.specs.steps.Threads.{begun_lines}
use Rattle.xp_lines.proofs.threads.begin_all.Given as goal

abbrev pub invariant-loop-group : goal.invariant-loop-group
invariant-loop-group g l = record {
  room : vec_len l.begun + into_iter_len l.group-iterator ≤ vec_capacity l.begun;
  many : length (into_iter_items l.left) ≡ into_iter_len l.left;
  lines : into_iter_items l.fn.left ≡ begun_lines l.begun.items ++ into_iter_items l.left;
}
