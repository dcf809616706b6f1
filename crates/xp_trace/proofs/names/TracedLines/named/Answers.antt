use Rattle.std.proofs.Common.{rules}
use Rattle.std.proofs.lemmas.Result.{err_from_is_err_and}
use Rattle.xp_trace.proofs.Naming.{fault_before, fault_last, read_last, read_more}
use Rattle.xp_trace.proofs.names.TracedLines.named.Goals as goal

pub returns-in_err-push_line-clause-unknown : goal.returns-in_err-push_line-clause-unknown
returns-in_err-push_line-clause-unknown c =
    let p = err_from_is_err_and c.from_residual.result c.from_residual.ensures.1 in
    rw (p.1, p.2) (fault_before c.args.subs.now _ _ _ _ _ _ c.loop-name.invariant.1 c.in-Some.ensures c.in_err-push_line.ensures.unknown)

pub loop-name-preserved : goal.loop-name-preserved
loop-name-preserved c =
    let more = c.in_ok-push_line.ensures.line in
    (search rules, rw more.2 (read_more c.args.subs.now _ _ _ _ _ _ c.loop-name.invariant.1 c.in-Some.ensures more.1))

pub returns-in_err-push_line-2-clause-unknown : goal.returns-in_err-push_line-2-clause-unknown
returns-in_err-push_line-2-clause-unknown c =
    let p = err_from_is_err_and c.from_residual-in_err-push_line-2.result c.from_residual-in_err-push_line-2.ensures.1 in
    rw (p.1, p.2) (fault_last c.args.subs.now _ _ _ _ c.loop-name.invariant.1 c.in_default.ensures c.in_err-push_line-2.ensures.unknown)

pub returns-clause-lines : goal.returns-clause-lines
returns-clause-lines c =
    let more = c.in_ok-push_line-2.ensures.line in
    rw more.2 (read_last c.args.subs.now _ _ _ more.0 c.loop-name.invariant.1 c.in_default.ensures more.1)
