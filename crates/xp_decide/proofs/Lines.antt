-- Idle, busy and missing lines exclude one another.
use Rattle.std.proofs.Common.{◌≡◌, ℕ, List, subst}
use Rattle.xp_hunt.specs.declared.lines.LineState.{LineState}
use Rattle.xp_hunt.specs.declared.lines.LineState.TheVariants.{Off, Idle}
use Rattle.xp_hunt.specs.Picks.{IsIdleIn, AreOff, HasNoneIdle, HasBusy}

pub idle_not_off : (states : ℕ → LineState) (lines : List ℕ) (line : ℕ) → IsIdleIn states lines line → AreOff states lines → ⊥
idle_not_off states lines line ((k, below, is), idle) off =
    let P : ℕ → Type 0 = λ l. states l ≡ Off in
    let is_off : states line ≡ Off = subst P is (off k line below) in cc

pub idle_not_none : (states : ℕ → LineState) (lines : List ℕ) (line : ℕ) → IsIdleIn states lines line → HasNoneIdle states lines → ⊥
idle_not_none states lines line ((k, below, is), idle) none =
    let P : ℕ → Type 0 = λ l. states l ≡ Idle → ⊥ in subst P is (none k line below) idle

pub busy_not_off : (states : ℕ → LineState) (lines : List ℕ) → HasBusy states lines → AreOff states lines → ⊥
busy_not_off states lines (line, (k, below, is), busy) off =
    let P : ℕ → Type 0 = λ l. states l ≡ Off in
    let is_off : states line ≡ Off = subst P is (off k line below) in cc

pub off_none_idle : (states : ℕ → LineState) (lines : List ℕ) → AreOff states lines → HasNoneIdle states lines
off_none_idle states lines off k d below idle = let is_off = off k d below in cc
