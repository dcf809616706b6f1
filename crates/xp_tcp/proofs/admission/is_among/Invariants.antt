use Rattle.std.proofs.Common.{◌≡◌, ◌<◌, ℕ, slice_index_or}
use Rattle.xp_tcp.specs.Networks.{Includes}
use Rattle.xp_tcp.specs.declared.source.Source.{Source}
use Rattle.xp_tcp.proofs.admission.is_among.Given as goal

abbrev pub invariant-loop-place : goal.invariant-loop-place
invariant-loop-place l = (k : ℕ) (source : Source) → k < l.place-index → slice_index_or l.places k source ≡ source → Includes source l.peer → ⊥
