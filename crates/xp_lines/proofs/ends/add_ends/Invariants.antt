use Rattle.std.proofs.Common.{◌≡◌, ◌+◌, ◌≤◌, length}
use Rattle.std.specs.Prelude.{vec_capacity, vec_len}
use Rattle.std.specs.Vec.Iter.{into_iter_items, into_iter_len}
use Rattle.xp_lines.specs.Sessions.{AreMoved}
use Rattle.xp_lines.specs.steps.Serving.{EndsSo}
use Rattle.xp_lines.proofs.Served.{AddsSoFar}
use Rattle.xp_lines.proofs.ends.add_ends.Given as goal

abbrev pub invariant-loop-line : goal.invariant-loop-line
invariant-loop-line g l = record {
  many : length (into_iter_items l.line-iterator) ≡ into_iter_len l.line-iterator;
  capacity : vec_capacity l.ends ≡ vec_capacity l.fn.ends;
  room : vec_len l.ends + into_iter_len l.line-iterator ≤ vec_capacity l.ends;
  count : vec_len l.ends + into_iter_len l.line-iterator ≡ vec_len l.fn.ends + vec_len l.fn.lines;
  adds : AddsSoFar (EndsSo g.N.Name.subs (AreMoved g.P.Link.Link.pushed g.P.Link.Link.pulled)) l.fn.ends.items (l.fn.lines.items) (into_iter_items l.line-iterator) l.ends.items;
}
