use Rattle.std.proofs.Common.{◌≡◌, ℕ, ◌<◌, true}
use Rattle.xp_subs.specs.Tables.{station_at}
use Rattle.xp_summary.specs.Warnings.{is_in}
use Rattle.xp_summary.proofs.station_warnings.is_alone.Given as goal

-- of the stations before, none but this one is in the group
abbrev pub invariant-loop-other : goal.invariant-loop-other
invariant-loop-other l = (k : ℕ) → k < l.other → is_in (station_at l.subs k) l.group ≡ true → k ≡ l.station
