use Rattle.std.proofs.Common.{◌≡◌, ℕ, ◌<◌, false}
use Rattle.xp_subs.specs.Tables.{is_router, line_at, station_of}
use Rattle.xp_summary.proofs.default_callers.is_behind_none.Given as goal

-- of the lines before, the station's are behind no router
abbrev pub invariant-loop-number : goal.invariant-loop-number
invariant-loop-number l = (k : ℕ) → k < l.number → station_of l.subs k ≡ l.station → is_router (line_at l.subs k).access ≡ false
