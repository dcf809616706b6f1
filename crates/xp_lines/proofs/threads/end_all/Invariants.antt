use Rattle.std.proofs.Common.{◌≡◌, ◌+◌, ◌≤◌, ◌++◌, List, length}
use Rattle.std.specs.Prelude.{vec_capacity, vec_len}
use Rattle.std.specs.Vec.Iter.{into_iter_items, into_iter_len}
use Rattle.xp_links.specs.Pairs.{AreEach}
use Rattle.std.specs.declared.alloc.Global.{Global as Alloc}
use Rattle.xp_lock.specs.Passes.{Pass}
use Rattle.xp_lines.specs.Sessions.{AreMoved}
use Rattle.xp_lines.specs.steps.Serving.{EndsSo}
use Rattle.xp_lines.specs.steps.Threads.{begun_lines}
use Rattle.xp_lines.proofs.threads.end_all.Given as goal

abbrev pub invariant-loop-lines : goal.invariant-loop-lines
invariant-loop-lines g l = record {
  many : length (into_iter_items l.lines-iterator) ≡ into_iter_len l.lines-iterator;
  capacity : vec_capacity l.ends ≡ vec_capacity l.fn.ends;
  room : vec_len l.ends + (length (begun_lines (into_iter_items l.lines-iterator)) + length (into_iter_items l.left)) ≤ vec_capacity l.ends;
  adds :
      (done : List (Pass Alloc)) × (done ++ begun_lines (into_iter_items l.lines-iterator) ≡ begun_lines l.fn.begun.items)
      × AreEach (EndsSo g.N.Name.subs (AreMoved g.P.Link.Link.pushed g.P.Link.Link.pulled)) done l.ends.items;
}
