use Rattle.std.proofs.Common.{◌≡◌, drop}
use Rattle.xp_changes.specs.Stations.{line_before}
use Rattle.xp_subs.specs.Tables.{station_at}
use Rattle.xp_changes.proofs.listing.line_before.Given as goal

-- none of the lines before this one was there
abbrev pub invariant-loop-place : goal.invariant-loop-place
invariant-loop-place l =
    let lines = (station_at l.new l.station).lines.items in
    line_before l.old l.new lines ≡ line_before l.old l.new (drop l.place lines)
