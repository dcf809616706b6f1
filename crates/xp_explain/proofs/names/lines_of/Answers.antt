use Rattle.std.proofs.lemmas.Result.{err_from_is_err_and}
use Rattle.xp_explain.proofs.NameLemmas.{fault_at}
use Rattle.xp_explain.proofs.names.lines_of.Goals as goal

pub returns-in_err-push_line-clause-fault : goal.returns-in_err-push_line-clause-fault
returns-in_err-push_line-clause-fault c =
    let p = err_from_is_err_and c.from_residual.result c.from_residual.ensures.1 in
    rw (p.1, p.2)
    (fault_at c.args.subs.now c.args.names.now c.loop-name.name-index _ _ c.loop-name.lines.items _ c.loop-name-test.true c.loop-name.invariant c.trim.ensures.trim c.in_err-push_line.ensures.fault)
