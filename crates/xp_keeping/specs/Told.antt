-- By which subscriptions calls are told, where these change (`AreToldInTurn`).
use Rattle.std.specs.Prelude.{◌≡◌, List, [], ◌∷◌, ◌++◌, All}
use Rattle.xp_cdr.specs.Ended.{IsNamedBy}
use Rattle.xp_cdr.specs.declared.ended.EndedCall.{EndedCall}
use Rattle.xp_subs.specs.Tables.{Tables}

-- The first of these calls, perhaps none, have their lines as the first of these subscriptions name them, the next ones as the next, and
-- so on to the last.
abbrev pub AreToldInTurn : List Tables → List EndedCall → Type 0
AreToldInTurn [] calls = calls ≡ []
AreToldInTurn (tables ∷ later) calls =
    (own : List EndedCall) × (rest : List EndedCall) × (calls ≡ own ++ rest) × All (IsNamedBy tables) own × AreToldInTurn later rest
