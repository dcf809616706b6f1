use Rattle.std.proofs.Common.{◌≡◌, ℕ, suc, ◌<◌, Some}
use Rattle.xp_subs.specs.Tables.{station_count}
use Rattle.xp_summary.specs.Redirections.{station_after}
use Rattle.xp_summary.proofs.redirections.is_in_circle.Given as goal

-- so many redirections lead to a station, and none of them back
abbrev pub invariant-loop-step : goal.invariant-loop-step
invariant-loop-step l =
    (station_after l.subs l.station l._step ≡ Some l.reached)
    × (l.reached < station_count l.subs)
    × ((steps : ℕ) → steps < l._step → station_after l.subs l.station (suc steps) ≡ Some l.station → ⊥)
