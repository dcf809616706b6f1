-- Which facilities can be written for a line.
use Rattle.std.specs.Prelude.{◌≡◌, ℕ, ◌≤◌, List, length, Err}
use Rattle.xp_facilities.specs.Indicated.{Indicates, Writes}
use Rattle.xp_facilities.specs.declared.fault.FacilityFault.{FacilityFault}
use Rattle.xp_facilities.specs.declared.fault.FacilityFault.TheVariants.{Memory}
use Rattle.xp_facilities.specs.declared.indicated.IndicatedFacilities.{IndicatedFacilities}

-- some facility field indicates them
pub record CanBeWritten {A : Type 0} (told : IndicatedFacilities A) : Type 0 where
  pub field : List ℕ
  pub tells : Indicates told field
  -- each such field has at most 107 octets; a packet has room for 109
  pub most : (other : List ℕ) → Indicates told other → length other ≤ 107
  -- writing them can fail only because an allocation fails
  pub refused : (fault : FacilityFault) → Writes told (Err fault) → fault ≡ Memory
