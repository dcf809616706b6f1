-- The states of the lines for a call request.
use Rattle.std.specs.Prelude.{ℕ, if◌then◌else◌, nat_eq}
use Rattle.xp_hunt.specs.declared.lines.LineState.{LineState}
use Rattle.xp_hunt.specs.declared.lines.LineState.TheVariants.{Busy}

-- the calling line counts as busy
abbrev pub state_for_caller : ℕ → (ℕ → LineState) → ℕ → LineState
state_for_caller caller states line = if nat_eq line caller then Busy else states line
