-- Who may call whom, as a matrix.
use Rattle.std.specs.Prelude.{◌≡◌, ℕ, suc, List, [], ◌∷◌}
use Rattle.xp_subs.specs.Tables.{Tables}
use Rattle.xp_summary.specs.Reach.{IsReach}
use Rattle.xp_summary.specs.declared.reach.Reach.{Reach}
use Rattle.xp_summary.specs.declared.reach.Reach.TheVariants.{Plain, Selecting, Never}

-- `x`, `s` or `.`
abbrev pub field_of : Reach → ℕ
field_of Plain = 120
field_of Selecting = 115
field_of Never = 46

-- the field says how the caller reaches the station
abbrev pub IsField : Tables → ℕ → ℕ → ℕ → Type 0
IsField tables caller called field = (reach : Reach) × IsReach tables caller called reach × (field ≡ field_of reach)

-- the fields of a caller, one for each station from `first` to the one before `past`
abbrev pub AreFields : Tables → ℕ → ℕ → ℕ → List ℕ → Type 0
AreFields tables caller first past [] = first ≡ past
AreFields tables caller first past (field ∷ fields) =
    IsField tables caller first field × AreFields tables caller (suc first) past fields
