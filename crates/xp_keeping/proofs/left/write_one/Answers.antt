use Rattle.std.proofs.Common.{◌≡◌, rules, subst}
use Rattle.xp_cdr.specs.Details.{detail_text}
use Rattle.xp_keeping.specs.Printing.{Prints}
use Rattle.xp_keeping.proofs.left.write_one.Goals as goal

pub returns : goal.returns
returns g c =
    let text : c.deref.result.now ≡ detail_text c.args.run.now c.args.call.now = search rules in
    subst (λ line. Prints (g.W.Write.contents c.args.output.now) (g.W.Write.contents c.write_lines.new.output) line c.write_lines.result) text c.write_lines.ensures
