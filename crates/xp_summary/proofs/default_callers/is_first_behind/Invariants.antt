use Rattle.std.proofs.Common.{◌≡◌, ℕ, ◌<◌, false}
use Rattle.xp_file.specs.Entries.{is_behind}
use Rattle.xp_subs.specs.Tables.{line_at}
use Rattle.xp_summary.proofs.default_callers.is_first_behind.Given as goal

-- none of the lines so far is behind the router
abbrev pub invariant-loop-earlier : goal.invariant-loop-earlier
invariant-loop-earlier l = (k : ℕ) → k < l.earlier → is_behind l.router (line_at l.subs k).access ≡ false
