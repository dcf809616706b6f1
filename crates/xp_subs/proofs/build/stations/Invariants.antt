use Rattle.std.proofs.Common.{◌≡◌, ◌++◌, take, drop}
use Rattle.xp_subs.specs.Built.{stations_from}
use Rattle.xp_subs.specs.Passes.{line_total}
use Rattle.xp_subs.proofs.build.stations.Given as goal

abbrev pub invariant-loop-entry : goal.invariant-loop-entry
invariant-loop-entry l =
    (l.stations.items ++ stations_from l.known.keys l.first (drop l.entry-index l.entries) ≡ stations_from l.known.keys 0 l.entries)
    × (l.first ≡ line_total (take l.entry-index l.entries))
