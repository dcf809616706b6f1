-- The facilities that a field requests (X.25 clauses 6 and 7.2).
use Rattle.std.specs.Prelude.{ℕ, ◌+◌, ◌*◌, ◌/◌, ◌%◌, ◌≡◌, Bool, true, false, nat_lt, nat_le, ◌==◌, ◌&&◌, ◌||◌, if◌then◌else◌, List, [], ◌∷◌, length, Option, Some, None, Result, Ok, Err, ◌⊎◌, option_map, option_and_then}
use Rattle.std.specs.List.{list_any, list_all}
use Rattle.xp_facilities.specs.Items.{Item, IsField, octets_of_all}
use Rattle.xp_facilities.specs.declared.requested.RequestedFacilities.{RequestedFacilities}
use Rattle.xp_facilities.specs.declared.fast_select.FastSelect.{FastSelect}
use Rattle.xp_facilities.specs.declared.fast_select.FastSelect.TheVariants.{No, Unrestricted, Restricted}
use Rattle.xp_facilities.specs.declared.fault.FacilityFault.{FacilityFault}
use Rattle.xp_facilities.specs.declared.fault.FacilityFault.TheVariants.{Length, Code, Param, Memory}
use Rattle.xp_facilities.specs.Limits.{largest_window}
use Rattle.xp_facilities.specs.Octets.{is_within}
use Rattle.xp_facilities.specs.declared.direction_sizes.DirectionSizes.{DirectionSizes}
use Rattle.xp_facilities.specs.declared.selection.Selection.{Selection}
use Rattle.xp_facilities.specs.declared.selection.Selection.TheVariants.{Nothing, Closed, WithOutsideAccess}

-- the code 00 is a marker
abbrev pub is_marker : Item → Bool
is_marker item = item.code == 0x00

-- the items before the first marker
abbrev pub before_marker : List Item → List Item
before_marker [] = []
before_marker (item ∷ items) = if is_marker item then [] else item ∷ before_marker items

-- the codes that are accepted before the first marker
abbrev pub accepted_codes : List ℕ
accepted_codes = 0x01 ∷ 0x02 ∷ 0x03 ∷ 0x04 ∷ 0x09 ∷ 0x42 ∷ 0x43 ∷ 0x47 ∷ 0x48 ∷ []

abbrev pub has_code : List ℕ → Item → Bool
has_code codes item = list_any (λ code. code == item.code) codes

unfoldable pub has_accepted_codes : List Item → Bool
has_accepted_codes items = list_all (has_code accepted_codes) (before_marker items)

-- the parameters of the last item that has one of these codes
unfoldable pub last_of : List ℕ → List Item → Option (List ℕ)
last_of codes [] = None
last_of codes (item ∷ items) =
    elim (last_of codes items) [ Some later ↦ Some later | None ↦ if has_code codes item then Some item.parameters else None ]

-- two decimal digits; none if a half-octet is above 9
unfoldable pub decimal : ℕ → Option ℕ
decimal octet = if nat_lt (octet / 16) 10 && nat_lt (octet % 16) 10 then Some (10 * (octet / 16) + octet % 16) else None

-- an index of two or four digits
unfoldable pub index_of : List ℕ → Option ℕ
index_of (low ∷ []) = decimal low
index_of (high ∷ low ∷ []) = option_and_then (λ x. option_map (λ y. 100 * x + y) (decimal low)) (decimal high)
index_of parameters = None

-- the closed user group selection, from the parameters of both kinds of item; both together are not allowed
unfoldable pub chosen : Option (List ℕ) → Option (List ℕ) → Option Selection
chosen None None = Some Nothing
chosen (Some closed) None = option_map Closed (index_of closed)
chosen None (Some with_outside_access) = option_map WithOutsideAccess (index_of with_outside_access)
chosen (Some closed) (Some with_outside_access) = None

unfoldable pub selection_of : List Item → Option Selection
selection_of items = chosen (last_of (0x03 ∷ 0x47 ∷ []) (before_marker items)) (last_of (0x09 ∷ 0x48 ∷ []) (before_marker items))

-- two sizes, from the called and from the calling DTE, each within its range
unfoldable pub sizes_within : ℕ → ℕ → Option (List ℕ) → Option (Option DirectionSizes)
sizes_within least most None = Some None
sizes_within least most (Some (called ∷ calling ∷ [])) =
    if is_within least most (record { from_called = called; from_calling = calling })
    then Some (Some (record { from_called = called; from_calling = calling }))
    else None
sizes_within least most (Some parameters) = None

unfoldable pub packet_of : List Item → Option (Option DirectionSizes)
packet_of items = sizes_within 4 12 (last_of (0x42 ∷ []) (before_marker items))

unfoldable pub window_of : List Item → Option (Option DirectionSizes)
window_of items = sizes_within 1 largest_window (last_of (0x43 ∷ []) (before_marker items))

-- the parameter of an item with one octet of parameters
unfoldable pub octet_of : Option (List ℕ) → Option ℕ
octet_of (Some (octet ∷ [])) = Some octet
octet_of parameters = None

-- fast select, in bits 8 and 7: 10 is unrestricted, 11 is restricted
unfoldable pub fast_of : Option ℕ → FastSelect
fast_of None = No
fast_of (Some octet) = if octet / 64 == 2 then Unrestricted else (if octet / 64 == 3 then Restricted else No)

-- whether bit 1 is set
unfoldable pub first_bit : Option ℕ → Bool
first_bit None = false
first_bit (Some octet) = octet % 2 == 1

-- whether a marker starts facilities between DTEs; a marker with an unknown parameter is not allowed
unfoldable pub opens : List ℕ → Option Bool
opens (octet ∷ []) = if octet == 0x0f then Some true else (if octet == 0x00 || octet == 0xff then Some false else None)
opens parameters = None

-- the items between each marker of facilities between DTEs and the next marker
unfoldable pub carried : Bool → List Item → Option (List Item)
carried inside [] = Some []
carried inside (item ∷ items) =
    if is_marker item then option_and_then (λ opened. carried opened items) (opens item.parameters)
    else option_map (λ others. if inside then item ∷ others else others) (carried inside items)

-- the octets of those items; more than 80 are not allowed
unfoldable pub dte_of : List Item → Option (List ℕ)
dte_of items =
    option_and_then (λ kept. if nat_le (length (octets_of_all kept)) 80 then Some (octets_of_all kept) else None) (carried false items)

-- some parameter is not allowed
abbrev pub HasWrongParameter : List Item → Type 0
HasWrongParameter items = (selection_of items ≡ None) ⊎ (packet_of items ≡ None) ⊎ (window_of items ≡ None) ⊎ (dte_of items ≡ None)

-- The field requests these facilities. It is a list of items; those before the first marker have accepted codes; for
-- each code the last item before the first marker counts.
pub record Means {A : Type 0} (field : List ℕ) (asked : RequestedFacilities A) : Type 0 where
  pub items : List Item
  pub whole : IsField field items
  pub accepted : has_accepted_codes items ≡ true
  pub selection : selection_of items ≡ Some asked.selection
  pub fast : asked.fast ≡ fast_of (octet_of (last_of (0x01 ∷ []) (before_marker items)))
  pub reverse : asked.reverse ≡ first_bit (octet_of (last_of (0x01 ∷ []) (before_marker items)))
  pub throughput : asked.throughput ≡ octet_of (last_of (0x02 ∷ []) (before_marker items))
  pub charging : asked.charging ≡ first_bit (octet_of (last_of (0x04 ∷ []) (before_marker items)))
  pub packet : packet_of items ≡ Some asked.packet
  pub window : window_of items ≡ Some asked.window
  pub dte : dte_of items ≡ Some asked.dte

-- the first fault, in the order of the checks
abbrev pub IsFaulty : List ℕ → FacilityFault → Type 0
IsFaulty field Length = (items : List Item) → IsField field items → ⊥
IsFaulty field Code = (items : List Item) × IsField field items × (has_accepted_codes items ≡ false)
IsFaulty field Param = (items : List Item) × IsField field items × (has_accepted_codes items ≡ true) × HasWrongParameter items
IsFaulty field Memory = ⊥

-- The result of parsing a field. It is out of memory only where the field requests something.
abbrev pub Parses : {A : Type 0} → List ℕ → Result (RequestedFacilities A) FacilityFault → Type 0
Parses field (Ok asked) = Means field asked
Parses {A} field (Err Memory) = (asked : RequestedFacilities A) × Means field asked
Parses field (Err Length) = IsFaulty field Length
Parses field (Err Code) = IsFaulty field Code
Parses field (Err Param) = IsFaulty field Param

-- Every field is a list of items in at most one way. It either has exactly one meaning or exactly one fault, never
-- both.
pub record HasOneReading (A : Type 0) (field : List ℕ) : Type 0 where
  pub items : (items others : List Item) → IsField field items → IsField field others → items ≡ others
  pub some : ((asked : RequestedFacilities A) × Means field asked) ⊎ ((fault : FacilityFault) × IsFaulty field fault)
  pub meaning : (asked other : RequestedFacilities A) → Means field asked → Means field other → asked ≡ other
  pub fault : (fault other : FacilityFault) → IsFaulty field fault → IsFaulty field other → fault ≡ other
  pub never_both : (asked : RequestedFacilities A) (fault : FacilityFault) → Means field asked → IsFaulty field fault → ⊥
