use Rattle.std.proofs.Common.{◌≡◌, [], ◌∷◌, ◌++◌, ap, append_assoc, arith, length, map, rules, subst, sym, ◌∙◌}
use Rattle.std.proofs.lemmas.List.{nil_from_length}
use Rattle.std.specs.Vec.Iter.{into_iter_items}
use Rattle.xp_lines.proofs.Served.{none_behind}
use Rattle.xp_serve.proofs.ends.passes_of.Goals as goal

pub loop-end-init : goal.loop-end-init
loop-end-init g c =
    let gives = c.into_iter-end-iterator.ensures.into_iter_gives in
    record {
      many = search rules;
      room = search rules;
      passes =
          ap (λ passes. passes ++ map (λ end. end.pass) (into_iter_items c.into_iter-end-iterator.result)) c.requires.none
          ∙ ap (map (λ end. end.pass)) gives.0;
    }

pub loop-end-preserved : goal.loop-end-preserved
loop-end-preserved g c =
    let was = c.loop-end.invariant in
    let items = c.in-Some.ensures.steps.0 in
    let fewer = c.in-Some.ensures.steps.1 in
    let pushed = c.push_reserved.ensures in
    let rest = into_iter_items c.next.new.self in
    let all = map (λ end. end.pass) c.args.ends.items in
    record {
      many = let one = ap length items in let many = was.many in omega (arith, one, fewer, many);
      room = let len = pushed.len in let capacity = pushed.capacity in let room = was.room in omega (arith, fewer, len, capacity, room);
      passes =
          subst (λ passes. passes ++ map (λ end. end.pass) rest ≡ all) (sym pushed.items)
          (append_assoc c.loop-end.passes.items (c.in-Some.end.pass ∷ []) (map (λ end. end.pass) rest)
          ∙ ap (λ ends. c.loop-end.passes.items ++ map (λ end. end.pass) ends) (sym items) ∙ was.passes);
    }

pub returns : goal.returns
returns g c =
    let was = c.loop-end.invariant in
    none_behind c.loop-end.passes.items _ _
    (ap (map (λ end. end.pass)) (nil_from_length (into_iter_items c.loop-end.end-iterator) (was.many ∙ c.in-None.ensures.steps.0))) was.passes
