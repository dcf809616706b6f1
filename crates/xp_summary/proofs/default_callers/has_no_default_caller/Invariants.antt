use Rattle.std.proofs.Common.{◌≡◌, ℕ, ◌<◌, true, false}
use Rattle.xp_file.specs.Entries.{is_behind}
use Rattle.xp_subs.specs.Tables.{line_at, station_at, station_of}
use Rattle.xp_summary.proofs.default_callers.has_no_default_caller.Given as goal

-- of the lines before, those behind the router are of no default caller
abbrev pub invariant-loop-number : goal.invariant-loop-number
invariant-loop-number l =
    (k : ℕ) → k < l.number → is_behind l.router (line_at l.subs k).access ≡ true → (station_at l.subs (station_of l.subs k)).default_caller ≡ false
