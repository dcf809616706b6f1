-- Which facilities a field can indicate.
use Rattle.std.specs.Prelude.{ℕ, List}
use Rattle.xp_facilities.specs.Indicated.{Indicates}
use Rattle.xp_facilities.specs.declared.indicated.IndicatedFacilities.{IndicatedFacilities}

module _ {A : Type 0} where
  abbrev pub CanBeTold : IndicatedFacilities A → Type 0
  CanBeTold told = (field : List ℕ) × Indicates told field
