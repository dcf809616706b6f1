-- A look at a group finds something.
use Rattle.std.proofs.Common.{◌≡◌, ◌≢◌, ℕ, suc, List, [], ◌∷◌, refl, arith}
use Rattle.std.proofs.lemmas.List.Elements.{All-nil, All-cons}
use Rattle.xp_hunt.specs.declared.lines.LineState.{LineState}
use Rattle.xp_hunt.specs.declared.lines.LineState.TheVariants.{Off, Idle, Busy}
use Rattle.xp_hunt.specs.declared.choice.HuntOutcome.{HuntOutcome}
use Rattle.xp_hunt.specs.declared.choice.HuntOutcome.TheVariants as picked
use Rattle.xp_hunt.specs.Picks.{HasNoneIdle, HasBusy, Picks}

abbrev Found : (ℕ → LineState) → List ℕ → Type 0
Found states group = (found : HuntOutcome) × Picks states group found

module _ (states : ℕ → LineState) (line : ℕ) (group : List ℕ) where
  not_idle : (state : LineState) → states line ≡ state → state ≢ Idle → states line ≢ Idle
  not_idle state is other idle = other (cc (is, idle))

  none_of : states line ≢ Idle → HasNoneIdle states group → HasNoneIdle states (line ∷ group)
  none_of this none = All-cons (λ l. states l ≢ Idle) line group this none

  busy_behind : HasBusy states group → HasBusy states (line ∷ group)
  busy_behind (busy, (k, below, is), state) = (busy, (suc k, omega (arith, below), is), state)

  off_not_idle : (ls : List ℕ) → Picks states ls picked.AllOff → HasNoneIdle states ls
  off_not_idle ls off k d below idle = let is_off = off k d below in cc

  with_first : (state : LineState) → states line ≡ state → Found states group → Found states (line ∷ group)
  with_first Idle is _ = (picked.Take line, ((0, omega arith, refl), is))
  with_first Off is (picked.Take taken, ((k, below, same), idle)) = (picked.Take taken, ((suc k, omega (arith, below), same), idle))
  with_first Off is (picked.AllOff, off) = (picked.AllOff, All-cons (λ l. states l ≡ Off) line group is off)
  with_first Off is (picked.Busy, (none, busy)) = (picked.Busy, (none_of (not_idle Off is (λ e. cc)) none, busy_behind busy))
  with_first Busy is (picked.Take taken, ((k, below, same), idle)) = (picked.Take taken, ((suc k, omega (arith, below), same), idle))
  with_first Busy is (picked.AllOff, off) =
      (picked.Busy, (none_of (not_idle Busy is (λ e. cc)) (off_not_idle group off), (line, (0, omega arith, refl), is)))
  with_first Busy is (picked.Busy, (none, _)) =
      (picked.Busy, (none_of (not_idle Busy is (λ e. cc)) none, (line, (0, omega arith, refl), is)))

pub picked_some : (states : ℕ → LineState) (group : List ℕ) → Found states group
picked_some states [] = (picked.AllOff, All-nil (λ l. states l ≡ Off))
picked_some states (line ∷ group) = with_first states line group (states line) refl (picked_some states group)
