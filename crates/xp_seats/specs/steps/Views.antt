-- For private steps. The rule of the seats (`IsShared`), and its steps.
use Rattle.std.specs.Prelude.{◌≡◌, ℕ, true, false, Option, None, Some, List, [], ◌∷◌, ◌++◌, length, slice_set}
use mathlib.Core.Option.{Option as Maybe, none, some}
use lib.ListN.{get_elem?}
use Rattle.xp_step.specs.declared.entry.Entry.{Entry}
use Rattle.xp_step.specs.Exchange.{Exchange}
use Rattle.xp_seats.specs.declared.seats_for_proofs.View.{View}
use Rattle.xp_seats.specs.Views.{seen_by}

module _ {A : Type 0} where
  -- the keeper, without the part of a holder
  abbrev pub keeping : List (Option (List (Entry A))) → View A
  keeping known = record { keeps = true; known = known; holds = false; holder = 0; seen = [] }

  -- the part of a holder alone
  abbrev pub holding : ℕ → List (Entry A) → View A
  holding holder seen = record { keeps = false; known = []; holds = true; holder = holder; seen = seen }

  -- a seat that knows nothing
  abbrev pub nobody : View A
  nobody = record { keeps = false; known = []; holds = false; holder = 0; seen = [] }

  -- what a seat knows without its part
  abbrev pub without_part : View A → View A
  without_part view = record view { holds = false; holder = 0; seen = [] }

  -- the part of a seat alone
  abbrev pub part_of : View A → View A
  part_of view = holding view.holder view.seen

  -- what a seat knows with the part of another
  abbrev pub with_part : View A → View A → View A
  with_part view other = record view { holds = other.holds; holder = other.holder; seen = other.seen }

  -- the keeper after it gave out the next part
  abbrev pub one_further : View A → View A
  one_further view = record view { known = view.known ++ Some [] ∷ []; holds = false; holder = 0; seen = [] }

  -- that part, of a holder who has seen nothing
  abbrev pub first_part : View A → View A
  first_part view = holding (length view.known) []

  -- what a seat knows is true: one seat is the keeper's, and the part of each holder is in one seat
  pub record Fits (keeper : ℕ) (owner : ℕ → ℕ) (known : List (Option (List (Entry A)))) (seat : ℕ) (view : View A) : Type 0 where
    pub keeps : view.keeps ≡ true → (seat ≡ keeper) × (view.known ≡ known)
    pub holds : view.holds ≡ true → (owner view.holder ≡ seat) × (seen_by known view.holder ≡ Some view.seen)

  -- so of all seats
  pub record IsShared (views : List (View A)) : Type 0 where
    pub keeper : ℕ
    pub owner : ℕ → ℕ
    pub known : List (Option (List (Entry A)))
    pub each : (seat : ℕ) (view : View A) → get_elem? views seat ≡ some view → Fits keeper owner known seat view

  -- the keeper, and the part that it has, now know this history
  pub record IsShown (history : List (Entry A)) (view after : View A) : Type 0 where
    pub shown : after ≡ record view { known = slice_set view.known view.holder (Some history); seen = history }
    pub agree : seen_by view.known view.holder ≡ Some view.seen

  -- the same, where the step was given an exchange
  abbrev pub IsShownBy : Maybe (Exchange A) → View A → View A → Type 0
  IsShownBy none view after = Unit {0}
  IsShownBy (some core) view after = IsShown core.history view after

  -- the keeper took the part back that it had
  pub record IsReturned (view after : View A) : Type 0 where
    pub left : after ≡ keeping (slice_set view.known view.holder None)
    pub agree : seen_by view.known view.holder ≡ Some view.seen
