use Rattle.std.proofs.lemmas.Result.{err_from_is_err_and}
use Rattle.xp_decide.proofs.Visited.{here, leaves, declines, takes, finds_off, finds_busy}
use Rattle.xp_decide.proofs.visit.call_at.Goals as goal

pub returns-in-Some : goal.returns-in-Some
returns-in-Some g c =
    leaves c.args.subs.now _ _ _ _ (here c.args.subs.now _ _ _ _ c.find.ensures.found c.in_ok-target.ensures.ok_part c.station-station.ensures) _
    c.in-Some.ensures

pub returns-in_err-admission : goal.returns-in_err-admission
returns-in_err-admission g c =
    let p = err_from_is_err_and c.from_residual-in_err-admission.result c.from_residual-in_err-admission.ensures.1 in
    rw (p.1, p.2) (declines c.args.subs.now _ _ _ _ (here c.args.subs.now _ _ _ _ c.find.ensures.found c.in_ok-target.ensures.ok_part c.station-station.ensures) _
    c.in_default.ensures c.in_err-admission.ensures)

pub returns-in-Take : goal.returns-in-Take
returns-in-Take g c =
    takes c.args.subs.now _ _ _ _ (here c.args.subs.now _ _ _ _ c.find.ensures.found c.in_ok-target.ensures.ok_part c.station-station.ensures) _ _
    c.in_default.ensures c.in_ok-admission.ensures c.in-Take.ensures

pub returns-in-AllOff : goal.returns-in-AllOff
returns-in-AllOff g c =
    rw c.ok_or-in-AllOff.ensures.value (finds_off c.args.subs.now _ _ _ _ (here c.args.subs.now _ _ _ _ c.find.ensures.found c.in_ok-target.ensures.ok_part c.station-station.ensures) _ _
    c.in_default.ensures c.in_ok-admission.ensures c.in-AllOff.ensures c.redirected-in-AllOff.ensures)

pub returns-in-Busy : goal.returns-in-Busy
returns-in-Busy g c =
    rw c.ok_or-in-Busy.ensures.value (finds_busy c.args.subs.now _ _ _ _ (here c.args.subs.now _ _ _ _ c.find.ensures.found c.in_ok-target.ensures.ok_part c.station-station.ensures) _ _
    c.in_default.ensures c.in_ok-admission.ensures c.in-Busy.ensures.0 c.in-Busy.ensures.1 c.redirected-in-Busy.ensures)
