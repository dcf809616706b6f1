use Rattle.std.proofs.Common.{◌≡◌, drop}
use Rattle.xp_subs.specs.Passes.{all_differ}
use Rattle.xp_subs.specs.steps.DefaultCallers.{are_rivals}
use Rattle.xp_subs.proofs.default_callers.default_callers_differ.Given as goal

abbrev pub invariant-loop-place : goal.invariant-loop-place
invariant-loop-place l = all_differ are_rivals (drop l.place l.stations) ≡ all_differ are_rivals l.stations
