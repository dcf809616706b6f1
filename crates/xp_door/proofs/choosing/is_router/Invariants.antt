use Rattle.std.proofs.Common.{◌≡◌, ◌<◌, ℕ, slice_index_or}
use Rattle.xp_door.specs.Hosts.{IsSameHost}
use Rattle.xp_door.specs.declared.choosing.Candidate.{Candidate}
use Rattle.xp_door.proofs.choosing.is_router.Given as goal

abbrev pub invariant-loop-candidate : goal.invariant-loop-candidate
invariant-loop-candidate l = (k : ℕ) (candidate : Candidate) → k < l.candidate-index → slice_index_or l.candidates k candidate ≡ candidate → IsSameHost candidate.router l.peer → ⊥
