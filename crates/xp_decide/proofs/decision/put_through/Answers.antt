use Rattle.std.proofs.lemmas.Result.{err_from_is_err_and}
use Rattle.xp_decide.proofs.Answered.{stops, refuses, takes}
use Rattle.xp_decide.proofs.Joined.{line_known}
use Rattle.xp_decide.proofs.decision.put_through.Goals as goal

pub modulus_of-modulus-requires : goal.modulus_of-modulus-requires
modulus_of-modulus-requires g c = line_known c.args.subs.now _ _ _ _ c.requires.sound c.in_ok-reached.ensures

pub returns-in_err-request : goal.returns-in_err-request
returns-in_err-request g c =
    let p = err_from_is_err_and c.from_residual.result c.from_residual.ensures.1 in
    rw (p.1, p.2) (stops c.args.subs.now _ _ c.args.block.now _ c.in_err-request.ensures)

pub returns-in_err-reached : goal.returns-in_err-reached
returns-in_err-reached g c =
    let p = err_from_is_err_and c.from_residual-in_err-reached.result c.from_residual-in_err-reached.ensures.1 in
    rw (p.1, p.2) (refuses c.args.subs.now _ _ c.args.block.now c.in_ok-request.request _ c.wanted.ensures c.in_ok-request.ensures _ c.in_err-reached.ensures)

pub returns : goal.returns
returns g c =
    takes c.args.subs.now _ _ c.args.block.now c.in_ok-request.request _ c.wanted.ensures c.in_ok-request.ensures _ _ _ c.in_ok-reached.ensures c.modulus_of-modulus.ensures c.in_ok-incoming_call.ensures
