-- The lines to which some entries put something out (`AreGiven`).
use Rattle.std.specs.Prelude.{◌≡◌, ◌↔◌, ℕ, ◌<◌, ◌==◌, ◌||◌, Bool, true, false, List, [], ◌∷◌, length}
use Rattle.xp_step.specs.declared.entry.Entry.{Entry}
use Rattle.xp_lock.specs.Outgoing.{put_out_to}

-- whether a line is among these
abbrev pub is_among : ℕ → List ℕ → Bool
is_among line [] = false
is_among line (other ∷ lines) = (other == line) || is_among line lines

-- no line is there twice
abbrev pub AreApart : List ℕ → Type 0
AreApart [] = Unit {0}
AreApart (line ∷ lines) = (is_among line lines ≡ false) × AreApart lines

module _ {A : Type 0} where
  -- these entries put something out to these lines and to no others, and each line is there once
  pub record AreGiven (entries : List (Entry A)) (lines : List ℕ) : Type 0 where
    pub each : (line : ℕ) → (is_among line lines ≡ true) ↔ (0 < length (put_out_to line entries))
    pub once : AreApart lines
