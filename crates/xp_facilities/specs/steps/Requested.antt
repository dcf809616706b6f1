-- How the private functions of the parser report a parameter that is not allowed (X.25 clauses 6 and 7.2).
use Rattle.std.specs.Prelude.{◌≡◌, Option, Some, None, Result, Ok, Err}
use Rattle.xp_facilities.specs.declared.fault.FacilityFault.{FacilityFault}
use Rattle.xp_facilities.specs.declared.fault.FacilityFault.TheVariants.{Param}

-- the value, or `Param` if the parameter is not allowed
abbrev pub Allows : {X : Type 0} → Option X → Result X FacilityFault → Type 0
Allows value (Ok x) = value ≡ Some x
Allows value (Err fault) = (value ≡ None) × (fault ≡ Param)
