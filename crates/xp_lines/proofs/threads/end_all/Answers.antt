use Rattle.std.proofs.Common.{◌≡◌, ◌++◌, [], ap, append_assoc, append-nil, arith, length, refl, rules, subst, sym, ◌∙◌}
use Rattle.std.proofs.lemmas.List.{length-append, nil_from_length}
use Rattle.std.specs.Prelude.{vec_len}
use Rattle.std.specs.Vec.Iter.{into_iter_items}
use Rattle.xp_links.specs.Pairs.{AreEach}
use Rattle.xp_lines.specs.Sessions.{AreMoved}
use Rattle.xp_lines.specs.steps.Serving.{EndsSo}
use Rattle.xp_lines.specs.steps.Threads.{begun_lines, lines_of}
use Rattle.xp_lines.proofs.threads.end_all.Goals as goal

pub loop-lines-init : goal.loop-lines-init
loop-lines-init g c =
    let gives = c.into_iter-lines-iterator.ensures.into_iter_gives in
    record {
      many = search rules;
      capacity = refl;
      room =
          let same = ap (λ begun. length (begun_lines begun)) gives.0 in
          let joined = length-append (begun_lines c.args.begun.items) (into_iter_items c.args.left) in
          let empty : vec_len c.args.ends ≡ 0 = search rules in
          let enough = c.requires.room in
          omega (arith, same, joined, empty, enough);
      adds = (
        [],
        ap begun_lines gives.0,
        subst (AreEach (EndsSo g.N.Name.subs (AreMoved g.P.Link.Link.pushed g.P.Link.Link.pulled)) []) (sym c.requires.none) tt,
      );
    }

pub loop-lines-preserved : goal.loop-lines-preserved
loop-lines-preserved g c =
    let was = c.loop-lines.invariant in
    let items = c.in-Some.ensures.steps.0 in
    let fewer = c.in-Some.ensures.steps.1 in
    let ended = c.end_one-ends.ensures in
    record {
      many = let one = ap length items in let many = was.many in omega (arith, one, fewer, many);
      capacity = ended.capacity ∙ was.capacity;
      room =
          let same = ap (λ begun. length (begun_lines begun)) items in
          let joined = length-append (lines_of c.in-Some.lines) (begun_lines (into_iter_items c.next.new.self)) in
          let len = ended.len in
          let capacity = ended.capacity in
          let room = was.room in
          omega (arith, same, joined, len, capacity, room);
      adds = (
        was.adds.0 ++ lines_of c.in-Some.lines,
        append_assoc was.adds.0 (lines_of c.in-Some.lines) (begun_lines (into_iter_items c.next.new.self)) ∙ ap (λ begun. was.adds.0 ++ begun_lines begun) (sym items) ∙ was.adds.1,
        ended.adds was.adds.0 was.adds.2,
      );
    }

pub returns : goal.returns
returns g c =
    let was = c.loop-lines.invariant in
    let none = nil_from_length (into_iter_items c.loop-lines.lines-iterator) (was.many ∙ c.in-None.ensures.steps.0) in
    let done : was.adds.0 ≡ begun_lines c.args.begun.items = sym (append-nil was.adds.0) ∙ ap (λ begun. was.adds.0 ++ begun_lines begun) (sym none) ∙ was.adds.1 in
    subst (λ lines. AreEach (EndsSo g.N.Name.subs (AreMoved g.P.Link.Link.pushed g.P.Link.Link.pulled)) (lines ++ into_iter_items c.args.left) c.add_unstarted.result.items) done
    (c.add_unstarted.ensures.adds was.adds.0 was.adds.2)
