-- The lines that are shown so far.
use Rattle.std.specs.Prelude.{ℕ, List, filter, not, take}
use Rattle.std.specs.List.{AllZip, zip}
use Rattle.xp_console.specs.declared.status.LineStatus.{LineStatus}
use Rattle.xp_observer.specs.Shown.{IsShownAs, LineNames, has_no_name}
use Rattle.xp_view.specs.declared.view.LineWithCall.{LineWithCall}

-- so many places are shown as they are seen, in order, but for spare ones
abbrev pub AreShownSoFar : List LineNames → List LineWithCall → ℕ → List LineStatus → Type 0
AreShownSoFar names seen count shown =
    AllZip (λ place status. IsShownAs place.0 place.1.line status) (filter (λ place. not (has_no_name place.0)) (take count (zip names seen))) shown
