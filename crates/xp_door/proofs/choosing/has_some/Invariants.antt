use Rattle.std.proofs.Common.{◌≡◌, ◌<◌, ℕ, slice_index_or}
use Rattle.xp_door.specs.Callers.{IsBehind, IsByRule}
use Rattle.xp_door.specs.declared.choosing.Candidate.{Candidate}
use Rattle.xp_door.proofs.choosing.has_some.Given as goal

abbrev pub invariant-loop-candidate : goal.invariant-loop-candidate
invariant-loop-candidate l = (k : ℕ) (candidate : Candidate) → k < l.candidate-index → slice_index_or l.candidates k candidate ≡ candidate → IsBehind l.call candidate × IsByRule l.call l.rule candidate.caller → ⊥
