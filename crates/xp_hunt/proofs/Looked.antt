-- What is known of a hunt group while it is looked through.
use Rattle.std.proofs.Common.{◌≡◌, ◌≢◌, ℕ, ◌<◌, List, get_or}
use Rattle.xp_hunt.specs.declared.lines.LineState.{LineState}
use Rattle.xp_hunt.specs.declared.lines.LineState.TheVariants.{Off, Idle}
use Rattle.xp_hunt.specs.declared.choice.HuntOutcome.{HuntOutcome}
use Rattle.xp_hunt.specs.declared.choice.HuntOutcome.TheVariants as picked
use Rattle.xp_hunt.specs.Picks.{HasBusy}

-- what the first n lines say: all off, or one busy
abbrev pub Shows : (ℕ → LineState) → List ℕ → ℕ → HuntOutcome → Type 0
Shows states group n (picked.Take line) = ⊥
Shows states group n picked.AllOff = (k d : ℕ) → k < n → states (get_or group k d) ≡ Off
Shows states group n picked.Busy = HasBusy states group

pub record IsLooked (states : ℕ → LineState) (group : List ℕ) (n : ℕ) (found : HuntOutcome) : Type 0 where
  pub none_idle : (k d : ℕ) → k < n → states (get_or group k d) ≢ Idle
  pub shows : Shows states group n found
