use Rattle.std.proofs.Common.{◌≡◌, ◌+◌, ◌≤◌, ◌++◌, length, map}
use Rattle.std.specs.Prelude.{vec_capacity, vec_len}
use Rattle.std.specs.Vec.Iter.{into_iter_items, into_iter_len}
use Rattle.xp_serve.proofs.ends.passes_of.Given as goal

abbrev pub invariant-loop-end : goal.invariant-loop-end
invariant-loop-end g l = record {
  many : length (into_iter_items l.end-iterator) ≡ into_iter_len l.end-iterator;
  room : vec_len l.passes + into_iter_len l.end-iterator ≤ vec_capacity l.passes;
  passes : l.passes.items ++ map (λ end. end.pass) (into_iter_items l.end-iterator) ≡ map (λ end. end.pass) l.fn.ends.items;
}
