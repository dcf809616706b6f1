use Rattle.std.proofs.Common.{ap, flat_map, subst, sym, ◌∙◌}
use Rattle.std.proofs.lemmas.Grind.{flat_map-append}
use Rattle.xp_cdr.specs.Details.{detail_text}
use Rattle.xp_keeping.specs.Printing.{Prints}
use Rattle.xp_keeping.proofs.Printed.{prints_both}
use Rattle.xp_keeping.proofs.left.write_left.Goals as goal

pub returns : goal.returns
returns g c =
    let text = detail_text c.args.run.now in
    let first = c.as_slices.result.0.now in
    let second = c.as_slices.result.1.now in
    let before = g.W.Write.contents c.args.output.now in
    let after = g.W.Write.contents c.write_on.new.output in
    subst (λ whole. Prints before after whole c.write_on.result)
    (sym (flat_map-append text first second) ∙ ap (flat_map text) c.as_slices.ensures.items)
    (prints_both before (g.W.Write.contents c.write_slice-so_far.new.output) after (flat_map text first) (flat_map text second) c.write_slice-so_far.result c.write_on.result c.write_slice-so_far.ensures c.write_on.ensures)
