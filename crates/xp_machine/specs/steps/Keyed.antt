-- For private steps. A slab of values that each have a number.
use Rattle.std.specs.Prelude.{◌≡◌, ℕ, Some}
use Rattle.slab.specs.Slab.{Slab, get}

module _ {X Y : Type 0} (entry : X → ℕ × Y) where
  -- no two keys have values of one number
  abbrev pub HasOneEach : Slab X → Type 0
  HasOneEach slab = (key other : ℕ) (x y : X) → get slab key ≡ Some x → get slab other ≡ Some y → (entry x).0 ≡ (entry y).0 → key ≡ other
