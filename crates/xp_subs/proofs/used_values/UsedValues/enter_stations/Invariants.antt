use Rattle.std.proofs.Common.{◌≡◌, take, drop}
use Rattle.xp_subs.specs.Passes.{line_total}
use Rattle.xp_subs.specs.steps.Passes.{with_stations}
use Rattle.xp_subs.proofs.used_values.UsedValues.enter_stations.Given as goal

abbrev pub invariant-loop-station : goal.invariant-loop-station
invariant-loop-station l =
    (with_stations 0 0 l.stations l.initial.self ≡ with_stations l.number l.line (drop l.station-index l.stations) l.self)
    × (l.number ≡ l.station-index) × (l.line ≡ line_total (take l.station-index l.stations))
