use Rattle.std.proofs.Common.{◌++◌, ap, append_assoc, arith, rules, sym, ◌∙◌}
use Rattle.std.specs.Vec.Iter.{into_iter_items}
use Rattle.xp_lines.specs.steps.Threads.{begun_lines, lines_of}
use Rattle.xp_lines.proofs.Served.{begun_more}
use Rattle.xp_lines.proofs.threads.begin_all.Goals as goal

pub loop-group-init : goal.loop-group-init
loop-group-init g c = record {
  room = search rules;
  many = c.requires.many;
  lines = ap (λ begun. begun_lines begun ++ into_iter_items c.args.left.now) (sym c.requires.none);
}

pub loop-group-preserved : goal.loop-group-preserved
loop-group-preserved g c =
    let was = c.loop-group.invariant in
    let fewer = c.in-Some.ensures.steps.1 in
    let pushed = c.push_reserved.ensures in
    let more = into_iter_items c.fill-lines.new.left in
    record {
      room = let len = pushed.len in let capacity = pushed.capacity in let room = was.room in omega (arith, fewer, len, capacity, room);
      many = c.fill-lines.ensures.many;
      lines =
          was.lines ∙ ap (λ left. begun_lines c.loop-group.begun.items ++ left) c.fill-lines.ensures.lines
          ∙ ap (λ lines. begun_lines c.loop-group.begun.items ++ (lines ++ more)) (sym c.begin_one.ensures)
          ∙ sym (append_assoc (begun_lines c.loop-group.begun.items) (lines_of c.begin_one.result) more)
          ∙ ap (λ lines. lines ++ more) (sym (begun_more c.loop-group.begun.items c.begin_one.result) ∙ ap begun_lines (sym pushed.items));
    }
