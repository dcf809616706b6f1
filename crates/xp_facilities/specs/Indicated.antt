-- The facilities that a field indicates to a DTE (X.25 clauses 6 and 7.2), and how they are written.
use Rattle.std.specs.Prelude.{ℕ, ◌≤◌, map, IfSome, ◌+◌, ◌*◌, ◌/◌, ◌%◌, ◌≡◌, Bool, true, false, nat_lt, nat_le, ◌&&◌, if◌then◌else◌, List, [], ◌∷◌, ◌++◌, length, Option, Some, None, Result, Ok, Err, option_map, is_some}
use Rattle.std.specs.List.{flat_map, list_any}
use Rattle.xp_packets.specs.Writing.{packed}
use Rattle.xp_facilities.specs.Requested.{is_marker}
use Rattle.xp_facilities.specs.Items.{Item, IsField, octets_of_all}
use Rattle.xp_facilities.specs.Octets.{reason_octet, is_within}
use Rattle.xp_facilities.specs.declared.fast_select.FastSelect.{FastSelect}
use Rattle.xp_facilities.specs.declared.fast_select.FastSelect.TheVariants.{No, Unrestricted, Restricted}
use Rattle.xp_facilities.specs.declared.fault.FacilityFault.{FacilityFault}
use Rattle.xp_facilities.specs.declared.fault.FacilityFault.TheVariants.{Length, Code, Param, Memory}
use Rattle.xp_facilities.specs.Limits.{largest_duration, largest_window}
use Rattle.xp_facilities.specs.declared.direction_sizes.DirectionSizes.{DirectionSizes}
use Rattle.xp_facilities.specs.declared.redirection.Reason.{Reason}
use Rattle.xp_facilities.specs.declared.redirection.RedirectionNotification.{RedirectionNotification}
use Rattle.xp_facilities.specs.declared.segment_counts.SegmentCounts.{SegmentCounts}
use Rattle.xp_facilities.specs.declared.selection.Selection.{Selection}
use Rattle.xp_facilities.specs.declared.selection.Selection.TheVariants.{Nothing, Closed, WithOutsideAccess}
use Rattle.xp_facilities.specs.declared.indicated.IndicatedFacilities.{IndicatedFacilities}

-- two decimal digits in half-octets
unfoldable pub decimal_octet : ℕ → ℕ
decimal_octet number = 16 * (number / 10) + number % 10

-- the last two, four and eight decimal digits
unfoldable pub two_digits : ℕ → List ℕ
two_digits number = decimal_octet (number % 100) ∷ []

unfoldable pub four_digits : ℕ → List ℕ
four_digits number = decimal_octet (number / 100 % 100) ∷ decimal_octet (number % 100) ∷ []

unfoldable pub eight_digits : ℕ → List ℕ
eight_digits number =
    decimal_octet (number / 1_000_000 % 100) ∷ decimal_octet (number / 10_000 % 100) ∷ decimal_octet (number / 100 % 100) ∷ decimal_octet (number % 100) ∷ []

-- fast select, in bits 8 and 7
unfoldable pub fast_bits : FastSelect → ℕ
fast_bits No = 0x00
fast_bits Unrestricted = 0x80
fast_bits Restricted = 0xc0

-- fast select, and reverse charging in bit 1; no item if the call has neither
unfoldable pub options : FastSelect → Bool → Option (List ℕ)
options No false = None
options fast reverse = Some ((fast_bits fast + (if reverse then 1 else 0)) ∷ [])

unfoldable pub closed_index : Selection → Option ℕ
closed_index (Closed index) = Some index
closed_index selection = None

unfoldable pub open_index : Selection → Option ℕ
open_index (WithOutsideAccess index) = Some index
open_index selection = None

-- an index of two digits, and an index of more
unfoldable pub two_digit_index : Option ℕ → Option (List ℕ)
two_digit_index None = None
two_digit_index (Some index) = if nat_lt index 100 then Some (two_digits index) else None

unfoldable pub four_digit_index : Option ℕ → Option (List ℕ)
four_digit_index None = None
four_digit_index (Some index) = if nat_lt index 100 then None else Some (four_digits index)

unfoldable pub throughput : Option ℕ → Option (List ℕ)
throughput class = option_map (λ octet. octet ∷ []) class

unfoldable pub modified : Option Reason → Option (List ℕ)
modified reason = option_map (λ (r : Reason). reason_octet r ∷ []) reason

unfoldable pub pair : Option DirectionSizes → Option (List ℕ)
pair sizes = option_map (λ (p : DirectionSizes). p.from_called ∷ p.from_calling ∷ []) sizes

-- days (the last two digits), hours, minutes and seconds, of two digits each
unfoldable pub duration_octets : ℕ → List ℕ
duration_octets seconds =
    decimal_octet (seconds / 86_400 % 100) ∷ decimal_octet (seconds / 3_600 % 24) ∷ decimal_octet (seconds / 60 % 60) ∷ decimal_octet (seconds % 60) ∷ []

unfoldable pub duration : Option ℕ → Option (List ℕ)
duration seconds = option_map duration_octets seconds

-- the segments sent to the DTE, then those received from it
unfoldable pub counts : Option SegmentCounts → Option (List ℕ)
counts segments = option_map (λ (s : SegmentCounts). eight_digits s.sent ++ eight_digits s.received) segments

-- the reason, the number of digits, the digits
unfoldable pub redirection : Option RedirectionNotification → Option (List ℕ)
redirection redirected = option_map (λ (r : RedirectionNotification). reason_octet r.reason ∷ length r.dialled ∷ packed r.dialled) redirected

-- an item, if there are parameters for it
unfoldable pub optional_item : ℕ → Option (List ℕ) → List Item
optional_item code None = []
optional_item code (Some parameters) = record { code = code; parameters = parameters } ∷ []

-- the codes in ascending order, each with its parameters
abbrev pub table : {A : Type 0} → IndicatedFacilities A → List (ℕ × Option (List ℕ))
table told =
    (0x01, options told.fast told.reverse)
    ∷ (0x02, throughput told.throughput)
    ∷ (0x03, two_digit_index (closed_index told.selection))
    ∷ (0x08, modified told.modified)
    ∷ (0x09, two_digit_index (open_index told.selection))
    ∷ (0x42, pair told.packet)
    ∷ (0x43, pair told.window)
    ∷ (0x47, four_digit_index (closed_index told.selection))
    ∷ (0x48, four_digit_index (open_index told.selection))
    ∷ (0xc1, duration told.duration)
    ∷ (0xc2, counts told.segments)
    ∷ (0xc3, redirection told.redirected)
    ∷ []

-- the items after the marker of facilities between DTEs; no marker if there are none
unfoldable pub marked : List Item → List Item
marked [] = []
marked (item ∷ items) = record { code = 0x00; parameters = 0x0f ∷ [] } ∷ item ∷ items

-- the items of the whole field
abbrev pub indicated_items : {A : Type 0} → IndicatedFacilities A → List Item → List Item
indicated_items told carried = flat_map (λ entry. optional_item entry.0 entry.1) (table told) ++ marked carried

-- which values a field can indicate
unfoldable pub index_fits : Selection → Bool
index_fits Nothing = true
index_fits (Closed index) = nat_le index 9_999
index_fits (WithOutsideAccess index) = nat_le index 9_999

unfoldable pub sizes_fit : ℕ → ℕ → Option DirectionSizes → Bool
sizes_fit least most None = true
sizes_fit least most (Some sizes) = is_within least most sizes

unfoldable pub duration_fits : Option ℕ → Bool
duration_fits None = true
duration_fits (Some seconds) = nat_le seconds largest_duration

unfoldable pub counts_fit : Option SegmentCounts → Bool
counts_fit None = true
counts_fit (Some segments) = nat_le segments.sent 99_999_999 && nat_le segments.received 99_999_999

unfoldable pub is_in_range : {A : Type 0} → IndicatedFacilities A → Bool
is_in_range told =
    index_fits told.selection && sizes_fit 4 12 told.packet && sizes_fit 1 largest_window told.window
    && duration_fits told.duration && counts_fit told.segments && nat_le (length told.dte) 80

-- the facilities between DTEs are items, and none of them is a marker
pub record IsCarried (dte : List ℕ) (carried : List Item) : Type 0 where
  pub whole : IsField dte carried
  pub unmarked : list_any is_marker carried ≡ false

-- The field indicates these facilities. Its items are theirs, in ascending order of codes, followed by those between
-- DTEs after their marker.
pub record Indicates {A : Type 0} (told : IndicatedFacilities A) (field : List ℕ) : Type 0 where
  pub carried : List Item
  pub dte : IsCarried told.dte carried
  pub in_range : is_in_range told ≡ true
  pub whole : field ≡ octets_of_all (indicated_items told carried)

-- The result of writing them. It is out of memory only where a field can indicate them.
abbrev pub Writes : {A : Type 0} → IndicatedFacilities A → Result (List ℕ) FacilityFault → Type 0
Writes told (Ok field) = Indicates told field
Writes told (Err Length) = (carried : List Item) → IsCarried told.dte carried → ⊥
Writes told (Err Param) = (carried : List Item) × IsCarried told.dte carried × (is_in_range told ≡ false)
Writes told (Err Code) = ⊥
Writes told (Err Memory) = (field : List ℕ) × Indicates told field

-- the most octets of a field: 2 each for options and throughput, 3 for a selection, and 80 between DTEs after their
-- marker of 2; then those facilities that not every packet indicates
abbrev pub most_octets : {A : Type 0} → IndicatedFacilities A → ℕ
most_octets told =
    89 + (if is_some told.modified then 2 else 0) + (if is_some told.packet then 3 else 0) + (if is_some told.window then 3 else 0)
    + (if is_some told.duration then 6 else 0) + (if is_some told.segments then 10 else 0) + (if is_some told.redirected then 12 else 0)

-- Each packet of the exchange is of one of these kinds. An incoming call indicates no modified address and no charging
-- information, a call connected packet no redirection and no duration, a clear packet no redirection and no sizes.
pub data IsOfExchange {A : Type 0} (told : IndicatedFacilities A) : Type 0 where
  incoming : told.modified ≡ None → told.duration ≡ None → told.segments ≡ None → IsOfExchange told
  connected : told.redirected ≡ None → told.duration ≡ None → IsOfExchange told
  cleared : told.redirected ≡ None → told.packet ≡ None → told.window ≡ None → IsOfExchange told

-- the codes ascend, and none is below `lowest`
abbrev pub AscendFrom : ℕ → List ℕ → Type 0
AscendFrom lowest [] = Unit {0}
AscendFrom lowest (code ∷ codes) = (lowest ≤ code) × AscendFrom (code + 1) codes

-- a field that indicates facilities is read as their items, and has at most this many octets
pub record IsIndicatedField {A : Type 0} (told : IndicatedFacilities A) (field : List ℕ) (tells : Indicates told field) : Type 0 where
  pub items : IsField field (indicated_items told tells.carried)
  pub order : AscendFrom 0x01 (map (λ (item : Item). item.code) (flat_map (λ entry. optional_item entry.0 entry.1) (table told)))
  pub most : IfSome told.redirected (λ r. length r.dialled ≤ 15) → length field ≤ most_octets told
