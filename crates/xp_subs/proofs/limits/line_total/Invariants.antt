use Rattle.std.proofs.Common.{◌≡◌, take}
use Rattle.xp_subs.specs.Passes.{line_total}
use Rattle.xp_subs.proofs.limits.line_total.Given as goal

abbrev pub invariant-loop-station : goal.invariant-loop-station
invariant-loop-station l = l.total ≡ line_total (take l.station-index l.stations)
