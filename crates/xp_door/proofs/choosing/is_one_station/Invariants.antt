use Rattle.std.proofs.Common.{◌≡◌, ◌<◌, ℕ, Some, slice_index_or}
use Rattle.xp_door.specs.Callers.{IsBehind}
use Rattle.xp_door.specs.declared.choosing.Candidate.{Candidate}
use Rattle.xp_door.proofs.choosing.is_one_station.Given as goal

-- each line behind the router so far is of the station that was found, and a line there is of that
abbrev pub invariant-loop-candidate : goal.invariant-loop-candidate
invariant-loop-candidate l =
    ((k : ℕ) (other : Candidate) → k < l.candidate-index → IsBehind l.call (slice_index_or l.candidates k other) → l.station ≡ Some (slice_index_or l.candidates k other).caller.station)
    × ((station : ℕ) → l.station ≡ Some station
    → (k : ℕ) × (k < l.candidate-index) × ((other : Candidate) → IsBehind l.call (slice_index_or l.candidates k other) × ((slice_index_or l.candidates k other).caller.station ≡ station)))
