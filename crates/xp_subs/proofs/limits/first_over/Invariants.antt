use Rattle.std.proofs.Common.{◌≡◌, drop}
use Rattle.xp_subs.specs.Passes.{first_over}
use Rattle.xp_subs.proofs.limits.first_over.Given as goal

abbrev pub invariant-loop-station : goal.invariant-loop-station
invariant-loop-station l = first_over (drop l.station-index l.stations) ≡ first_over l.stations
