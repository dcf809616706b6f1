-- A slab of values that each have a number, seen as a map by number.
use Rattle.std.specs.Prelude.{ℕ, map}
use Rattle.std.specs.FinMap as finite
use Rattle.std.specs.Ordering.{nat_cmp}
use Rattle.slab.specs.Slab.{Slab, values}

module _ {X Y : Type 0} (entry : X → ℕ × Y) where
  abbrev pub by_number : Slab X → finite.FinMap nat_cmp Y
  by_number slab = finite.from_entries (map entry (values slab))
