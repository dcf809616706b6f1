use Rattle.std.proofs.Common.{◌≡◌, ◌+◌, ◌≤◌, ◌++◌, length, map}
use Rattle.std.specs.Prelude.{vec_capacity, vec_len}
use Rattle.std.specs.Vec.Iter.{into_iter_items, into_iter_len}
use Rattle.xp_lines.proofs.groups.served_of.Given as goal

abbrev pub invariant-loop-line : goal.invariant-loop-line
invariant-loop-line g l = record {
  many : length (into_iter_items l.line-iterator) ≡ into_iter_len l.line-iterator;
  room : vec_len l.served + into_iter_len l.line-iterator ≤ vec_capacity l.served;
  count : vec_len l.served + into_iter_len l.line-iterator ≡ vec_len l.fn.inputs;
  lines : l.served.items ++ map (λ line. line.pass) (into_iter_items l.line-iterator) ≡ map (λ line. line.pass) l.fn.inputs.items;
}
