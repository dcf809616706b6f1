use Rattle.std.proofs.Common.{◌≡◌, ℕ, ◌<◌, true}
use Rattle.xp_file.specs.Entries.{is_behind}
use Rattle.xp_subs.specs.Tables.{line_at, station_of}
use Rattle.xp_summary.proofs.default_callers.is_alone_behind.Given as goal

-- of the lines before, those behind the router are the station's
abbrev pub invariant-loop-number : goal.invariant-loop-number
invariant-loop-number l = (k : ℕ) → k < l.number → is_behind l.router (line_at l.subs k).access ≡ true → station_of l.subs k ≡ l.station
