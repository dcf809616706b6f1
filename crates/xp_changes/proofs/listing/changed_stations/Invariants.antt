use Rattle.xp_changes.specs.Stations.{AreChanged}
use Rattle.xp_changes.proofs.listing.changed_stations.Given as goal

abbrev pub invariant-loop-number : goal.invariant-loop-number
invariant-loop-number l = AreChanged l.old l.new l.number l.stations.items
