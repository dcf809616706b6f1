use Rattle.std.proofs.Common.{◌≡◌, ◌+◌, ◌≤◌, ap, arith, length, refl, subst, sym, ◌∙◌}
use Rattle.std.proofs.lemmas.List.{nil_from_length}
use Rattle.std.specs.Prelude.{vec_capacity, vec_len}
use Rattle.std.specs.Vec.Iter.{into_iter_items, into_iter_len}
use Rattle.xp_lines.specs.Sessions.{AreMoved}
use Rattle.xp_lines.specs.steps.Serving.{EndsSo}
use Rattle.xp_lines.proofs.Served.{AddsSoFar, adds_all, adds_more, adds_none}
use Rattle.xp_lines.proofs.ends.add_unstarted.Goals as goal

pub loop-line-init : goal.loop-line-init
loop-line-init g c =
    let same = c.into_iter-line-iterator.ensures.into_iter_gives in
    subst (λ it. record {
      many : length (into_iter_items it) ≡ into_iter_len it;
      capacity : vec_capacity c.args.ends ≡ vec_capacity c.args.ends;
      room : vec_len c.args.ends + into_iter_len it ≤ vec_capacity c.args.ends;
      count : vec_len c.args.ends + into_iter_len it ≡ vec_len c.args.ends + length (into_iter_items c.args.lines);
      adds : AddsSoFar (EndsSo g.N.Name.subs (AreMoved g.P.Link.Link.pushed g.P.Link.Link.pulled)) c.args.ends.items (into_iter_items c.args.lines) (into_iter_items it) c.args.ends.items;
    }) (sym same)
    record {
      many = c.requires.many;
      capacity = refl;
      room = let many = c.requires.many in let room = c.requires.room in omega (arith, many, room);
      count = let many = c.requires.many in omega (arith, many);
      adds = adds_none _ _ _ _ refl;
    }

pub loop-line-preserved : goal.loop-line-preserved
loop-line-preserved g c =
    let was = c.loop-line.invariant in
    let items = c.in-Some.ensures.steps.0 in
    let fewer = c.in-Some.ensures.steps.1 in
    let pushed = c.push_reserved.ensures in
    let rest = into_iter_items c.next.new.self in
    let So = AddsSoFar (EndsSo g.N.Name.subs (AreMoved g.P.Link.Link.pushed g.P.Link.Link.pulled)) c.args.ends.items (into_iter_items c.args.lines) rest in
    record {
      many = let one = ap length items in let many = was.many in omega (arith, one, fewer, many);
      capacity = pushed.capacity ∙ was.capacity;
      room = let len = pushed.len in let capacity = pushed.capacity in let room = was.room in omega (arith, fewer, len, capacity, room);
      count = let len = pushed.len in let count = was.count in omega (arith, fewer, len, count);
      adds =
          subst So (sym pushed.items)
          (adds_more _ c.args.ends.items (into_iter_items c.args.lines) _ rest c.loop-line.ends.items c.in-Some.line c.into_unstarted.result was.adds items c.into_unstarted.ensures);
    }

pub returns-clause-adds : goal.returns-clause-adds
returns-clause-adds g c =
    let was = c.loop-line.invariant in
    adds_all _ c.args.ends.items (into_iter_items c.args.lines) _ c.loop-line.ends.items was.adds (nil_from_length (into_iter_items c.loop-line.line-iterator) (was.many ∙ c.in-None.ensures.steps.0))
