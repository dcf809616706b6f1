use Rattle.std.proofs.Common.{subst, sym, ◌∙◌}
use Rattle.xp_serve.proofs.LeftAlone.{doubted_written, nothing_written, told_by}
use Rattle.xp_serve.specs.LeftAlone.{LeavesAlone}
use Rattle.xp_serve.proofs.doubt.settle.Goals as goal

pub write_doubted-written-requires : goal.write_doubted-written-requires
write_doubted-written-requires g c = told_by c.args.end.keeper.opening c.args.run.now c.args.end.keeper c.args.end.outcome c.requires

pub returns-then-says_all_kept : goal.returns-then-says_all_kept
returns-then-says_all_kept g c =
    nothing_written c.args.end.keeper.opening c.args.run.now c.args.end.keeper c.args.end.outcome (g.W.Write.contents c.args.output.now) c.requires
    (sym c.says_all_kept.ensures ∙ c.if-says_all_kept.true)

pub returns : goal.returns
returns g c =
    let tables = c.args.end.keeper.opening in
    let keeper = c.args.end.keeper in
    let before = g.W.Write.contents c.args.output.now in
    let after = g.W.Write.contents c.write_doubted-written.new.output in
    subst (LeavesAlone tables c.args.run.now keeper before after) (sym c.told_beside.ensures)
    (doubted_written tables c.args.run.now keeper c.args.end.outcome before after c.write_doubted-written.result c.requires
    (sym c.says_all_kept.ensures ∙ c.if-says_all_kept.false) c.write_doubted-written.ensures)
