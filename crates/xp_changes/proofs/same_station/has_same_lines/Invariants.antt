use Rattle.std.proofs.Common.{◌<◌, ℕ}
use Rattle.xp_changes.specs.Stations.{IsSameLine, line_in}
use Rattle.xp_subs.specs.Tables.{station_at}
use Rattle.xp_changes.proofs.same_station.has_same_lines.Given as goal

abbrev pub invariant-loop-place : goal.invariant-loop-place
invariant-loop-place l =
    (place : ℕ) → place < l.place → IsSameLine l.old l.new (line_in (station_at l.old l.before) place) (line_in (station_at l.new l.after) place)
