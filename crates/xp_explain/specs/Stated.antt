-- The states of lines, as an operator states them.
use Rattle.std.specs.Prelude.{ℕ, if◌then◌else◌, nat_eq, Bool, true, List, Option, None, Some}
use Rattle.std.specs.List.{list_any}
use Rattle.xp_hunt.specs.declared.lines.LineState.{LineState}
use Rattle.xp_hunt.specs.declared.lines.LineState.TheVariants.{Off, Idle, Busy}

-- the line is in the list
abbrev pub has_line : List ℕ → ℕ → Bool
has_line lines line = list_any (λ listed. nat_eq listed line) lines

-- a line is up if it is in the list, or if there is no list
abbrev pub is_up : Option (List ℕ) → ℕ → Bool
is_up None line = true
is_up (Some up) line = has_line up line

-- busy as stated, or else idle where it is up, or else out of service
abbrev pub stated_state : Option (List ℕ) → List ℕ → ℕ → LineState
stated_state up busy line = if has_line busy line then Busy else (if is_up up line then Idle else Off)
