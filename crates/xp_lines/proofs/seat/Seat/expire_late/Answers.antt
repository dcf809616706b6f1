use Rattle.std.proofs.Common.{None, inr}
use Rattle.std.proofs.lemmas.Result.{err_from_is_err_and}
use Rattle.xp_lines.proofs.Worked.{lapses_nothing, lapses_refused, lapses_taken}
use Rattle.xp_lines.proofs.seat.Seat.expire_late.Goals as goal

pub returns-then-not-is_late-clause-lapses : goal.returns-then-not-is_late-clause-lapses
returns-then-not-is_late-clause-lapses g c = lapses_nothing c.args.now _ c.args.since.now _ c.is_late.ensures c.if-not-is_late.true

pub returns-in_err-offer-clause-lapses : goal.returns-in_err-offer-clause-lapses
returns-in_err-offer-clause-lapses g c =
    let p = err_from_is_err_and c.from_residual.result c.from_residual.ensures.1 in
    rw p.1 (lapses_refused c.args.now _ _ c.args.since.now None c.in_err-offer.ensures.tells.1)

pub returns-in_err-offer-clause-ends : goal.returns-in_err-offer-clause-ends
returns-in_err-offer-clause-ends g c =
    let p = err_from_is_err_and c.from_residual.result c.from_residual.ensures.1 in
    rw (p.1, p.2) (inr c.in_err-offer.ensures.tells.0)

pub returns-clause-lapses : goal.returns-clause-lapses
returns-clause-lapses g c =
    lapses_taken c.args.now _ _ c.args.since.now _ _ _ _ c.is_late.ensures c.if-not-is_late.false c.expire.ensures c.offer.ensures.tells c.in_ok-offer.was
