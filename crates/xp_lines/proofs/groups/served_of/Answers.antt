use Rattle.std.proofs.Common.{◌∷◌, ◌++◌, ap, append-nil, append_assoc, arith, length, map, rules, sym, ◌∙◌}
use Rattle.std.proofs.lemmas.List.{nil_from_length}
use Rattle.std.specs.Vec.Iter.{into_iter_items}
use Rattle.xp_lines.proofs.groups.served_of.Goals as goal

pub loop-line-init : goal.loop-line-init
loop-line-init g c =
    let gives = c.into_iter-line-iterator.ensures.into_iter_gives in
    record {
      many = search rules;
      room = search rules;
      count = search rules;
      lines = ap (λ served. served ++ map (λ line. line.pass) (into_iter_items c.into_iter-line-iterator.result)) c.requires.none ∙ ap (map (λ line. line.pass)) gives.0;
    }

pub loop-line-preserved : goal.loop-line-preserved
loop-line-preserved g c =
    let was = c.loop-line.invariant in
    let items = c.in-Some.ensures.steps.0 in
    let fewer = c.in-Some.ensures.steps.1 in
    let pushed = c.push_reserved.ensures in
    let rest = map (λ line. line.pass) (into_iter_items c.next.new.self) in
    record {
      many = let one = ap length items in let many = was.many in omega (arith, one, fewer, many);
      room = let len = pushed.len in let capacity = pushed.capacity in let room = was.room in omega (arith, fewer, len, capacity, room);
      count = let len = pushed.len in let count = was.count in omega (arith, fewer, len, count);
      lines =
          ap (λ served. served ++ rest) pushed.items ∙ append_assoc c.loop-line.served.items _ rest
          ∙ ap (λ line. c.loop-line.served.items ++ line ∷ rest) c.new.ensures
          ∙ ap (λ left. c.loop-line.served.items ++ map (λ line. line.pass) left) (sym items) ∙ was.lines;
    }

pub returns-clause-lines : goal.returns-clause-lines
returns-clause-lines g c =
    let was = c.loop-line.invariant in
    let none = nil_from_length (into_iter_items c.loop-line.line-iterator) (was.many ∙ c.in-None.ensures.steps.0) in
    sym (append-nil c.loop-line.served.items) ∙ ap (λ left. c.loop-line.served.items ++ map (λ line. line.pass) left) (sym none) ∙ was.lines
