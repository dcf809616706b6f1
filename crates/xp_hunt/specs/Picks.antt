-- The result of hunting in a hunt group (X.25 clause 6.24).
use Rattle.std.specs.Prelude.{◌≡◌, ◌≢◌, ℕ, List, All, Contains}
use Rattle.xp_hunt.specs.declared.lines.LineState.{LineState}
use Rattle.xp_hunt.specs.declared.lines.LineState.TheVariants.{Off, Idle, Busy}
use Rattle.xp_hunt.specs.declared.choice.HuntOutcome.{HuntOutcome}
use Rattle.xp_hunt.specs.declared.choice.HuntOutcome.TheVariants as picked

-- an idle line of the group
abbrev pub IsIdleIn : (ℕ → LineState) → List ℕ → ℕ → Type 0
IsIdleIn states group line = Contains group line × (states line ≡ Idle)

-- every line is out of service
abbrev pub AreOff : (ℕ → LineState) → List ℕ → Type 0
AreOff states group = All (λ line. states line ≡ Off) group

-- no line is idle
abbrev pub HasNoneIdle : (ℕ → LineState) → List ℕ → Type 0
HasNoneIdle states group = All (λ line. states line ≢ Idle) group

-- some line is in service with a call
abbrev pub HasBusy : (ℕ → LineState) → List ℕ → Type 0
HasBusy states group = (line : ℕ) × Contains group line × (states line ≡ Busy)

-- any idle line of the group; or all are out of service, or there is none; or none is idle and one is busy
abbrev pub Picks : (ℕ → LineState) → List ℕ → HuntOutcome → Type 0
Picks states group (picked.Take line) = IsIdleIn states group line
Picks states group picked.AllOff = AreOff states group
Picks states group picked.Busy = HasNoneIdle states group × HasBusy states group

-- a line was picked
abbrev pub IsTake : HuntOutcome → Type 0
IsTake (picked.Take line) = Unit {0}
IsTake picked.AllOff = ⊥
IsTake picked.Busy = ⊥

-- if a line of the group is idle, one is picked
abbrev pub PicksIdle : Type 0
PicksIdle = (states : ℕ → LineState) (group : List ℕ) (line : ℕ) (found : HuntOutcome) → IsIdleIn states group line → Picks states group found → IsTake found

-- hunting always has a result
abbrev pub EveryGroupIsPicked : Type 0
EveryGroupIsPicked = (states : ℕ → LineState) (group : List ℕ) → (found : HuntOutcome) × Picks states group found
