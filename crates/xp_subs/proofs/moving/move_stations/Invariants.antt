use Rattle.std.proofs.Common.{◌≡◌, ◌++◌, drop, map, take}
use Rattle.xp_subs.specs.Laid.{station_with}
use Rattle.xp_subs.specs.steps.Places.{number_at}
use Rattle.xp_subs.proofs.moving.move_stations.Given as goal

abbrev pub invariant-loop-station : goal.invariant-loop-station
invariant-loop-station l =
    l.stations ≡ map (station_with (number_at l.places)) (take l.station-index l.initial.stations) ++ drop l.station-index l.initial.stations
