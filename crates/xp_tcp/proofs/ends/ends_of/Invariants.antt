use Rattle.std.proofs.Common.{◌≡◌, ◌++◌, length, map}
use Rattle.std.specs.Vec.Iter.{into_iter_items, into_iter_len}
use Rattle.xp_tcp.proofs.ends.ends_of.Given as goal

abbrev pub invariant-loop-line : goal.invariant-loop-line
invariant-loop-line l = record {
  many : length (into_iter_items l.line-iterator) ≡ into_iter_len l.line-iterator;
  ends : map (λ end. end.port) l.ends.items ++ into_iter_items l.line-iterator ≡ l.fn.lines.items;
}
