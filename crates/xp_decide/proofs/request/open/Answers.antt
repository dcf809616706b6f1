use Rattle.std.proofs.Common.{refl}
use Rattle.std.proofs.lemmas.Result.{err_from_is_err_and}
use Rattle.xp_decide.proofs.Opened.{means_of, fits_as, caller_is, barred, not_intended}
use Rattle.xp_decide.specs.Asks as asks
use Rattle.xp_decide.proofs.request.open.Goals as goal

pub returns-then-not-windows_fit : goal.returns-then-not-windows_fit
returns-then-not-windows_fit g c =
    asks.window c.in_ok-asked.asked (means_of c.args.block.now _ _ c.as_slice.ensures c.in_ok-asked.ensures)
    (fits_as c.args.subs.now _ _ _ _ _ c.modulus_of.ensures c.windows_fit.ensures c.if-not-windows_fit.true) refl

pub returns-then-not-has_room : goal.returns-then-not-has_room
returns-then-not-has_room g c =
    asks.user_data c.in_ok-asked.asked (means_of c.args.block.now _ _ c.as_slice.ensures c.in_ok-asked.ensures)
    (fits_as c.args.subs.now _ _ _ _ _ c.modulus_of.ensures c.windows_fit.ensures c.if-not-windows_fit.false)
    (c.has_room.ensures.too_long c.if-not-has_room.true) refl

pub returns-then-caller : goal.returns-then-caller
returns-then-caller g c =
    barred c.args.subs.now _ c.args.block.now c.in_ok-asked.asked _
    (caller_is c.args.subs.now _ _ _ c.station_of.ensures.station c.station-caller.ensures)
    (means_of c.args.block.now _ _ c.as_slice.ensures c.in_ok-asked.ensures)
    (fits_as c.args.subs.now _ _ _ _ _ c.modulus_of.ensures c.windows_fit.ensures c.if-not-windows_fit.false)
    (c.has_room.ensures.room c.if-not-has_room.false) c.if-caller.true

pub returns-in_err-intent : goal.returns-in_err-intent
returns-in_err-intent g c =
    let p = err_from_is_err_and c.from_residual-in_err-intent.result c.from_residual-in_err-intent.ensures.1 in
    rw (p.1, p.2) (not_intended c.args.subs.now _ c.args.block.now c.in_ok-asked.asked _
    (caller_is c.args.subs.now _ _ _ c.station_of.ensures.station c.station-caller.ensures)
    (means_of c.args.block.now _ _ c.as_slice.ensures c.in_ok-asked.ensures)
    (fits_as c.args.subs.now _ _ _ _ _ c.modulus_of.ensures c.windows_fit.ensures c.if-not-windows_fit.false)
    (c.has_room.ensures.room c.if-not-has_room.false) _ c.if-caller.false c.in_err-intent.ensures)
