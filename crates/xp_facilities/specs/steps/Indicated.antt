-- The octets of the items that a field indicates, and those of the facilities between DTEs, as private functions write them
-- (X.25 clauses 6 and 7.2).
use Rattle.std.specs.Prelude.{ℕ, List, [], ◌∷◌, take}
use Rattle.std.specs.List.{flat_map}
use Rattle.xp_facilities.specs.Items.{octets_of_all}
use Rattle.xp_facilities.specs.Indicated.{optional_item, table}
use Rattle.xp_facilities.specs.declared.indicated.IndicatedFacilities.{IndicatedFacilities}

-- the items of so many rows of the table, from its first
abbrev pub octets_of_rows : {A : Type 0} → IndicatedFacilities A → ℕ → List ℕ
octets_of_rows told count = octets_of_all (flat_map (λ entry. optional_item entry.0 entry.1) (take count (table told)))

-- the same as `marked`, for octets
unfoldable pub marked_octets : List ℕ → List ℕ
marked_octets [] = []
marked_octets (octet ∷ octets) = 0x00 ∷ 0x0f ∷ octet ∷ octets
