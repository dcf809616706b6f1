use Rattle.std.proofs.Common.{◌<◌, ℕ}
use Rattle.xp_changes.specs.Stations.{IsSameMembership, group_in}
use Rattle.xp_changes.proofs.same_station.has_same_groups.Given as goal

abbrev pub invariant-loop-place : goal.invariant-loop-place
invariant-loop-place l = (place : ℕ) → place < l.place → IsSameMembership l.old l.new (group_in l.before place) (group_in l.after place)
