use Rattle.std.proofs.Common.{◌<◌, ℕ, slice_index_or}
use Rattle.xp_door.specs.Choices.{IsFree}
use Rattle.xp_door.specs.declared.choosing.Candidate.{Candidate}
use Rattle.xp_door.proofs.choosing.line_for.Given as goal

abbrev pub invariant-loop-place : goal.invariant-loop-place
invariant-loop-place l = (k : ℕ) (other : Candidate) → k < l.place → IsFree l.peer (slice_index_or l.candidates k other) → ⊥
