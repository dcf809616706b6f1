use Rattle.std.proofs.Common.{flat_map, subst, sym}
use Rattle.xp_cdr.specs.Details.{detail_text}
use Rattle.xp_keeping.proofs.Doubted.{lacking_written, left_written}
use Rattle.xp_keeping.specs.Printing.{Prints}
use Rattle.xp_keeping.proofs.doubt.write_unflushed.Goals as goal

pub returns-in-Some : goal.returns-in-Some
returns-in-Some g c =
    let old = g.W.Write.contents c.args.output.now in
    let new = g.W.Write.contents c.write_lines.new.output in
    lacking_written c.args.run.now c.args.keeper.now old new c.write_lines.result c.in-Some.last.now c.unfinished_lines.result.now
    c.in-Some.ensures c.requires c.unfinished_lines.ensures c.write_lines.ensures

pub returns-in-None : goal.returns-in-None
returns-in-None g c =
    let old = g.W.Write.contents c.args.output.now in
    let new = g.W.Write.contents c.write_left.new.output in
    let text = detail_text c.args.run.now in
    left_written c.args.run.now c.args.keeper.now old new c.write_left.result (sym c.in-None.ensures)
    (subst (λ records. Prints old new (flat_map text records) c.write_left.result) c.left.ensures c.write_left.ensures)
