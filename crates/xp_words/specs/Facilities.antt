-- Facilities in words (X.25 clause 7.2).
use Rattle.std.specs.Prelude.{ℕ, suc, zero, ◌+◌, ◌/◌, ◌%◌, ◌^◌, ◌==◌, ◌&&◌, codes, drop, if◌then◌else◌, length, nat_le, nat_lt, slice_index, take, unwrap_or, List, [], ◌∷◌, ◌++◌, Option, None, Some, false}
use Rattle.std.specs.Fmt.{decimal, digit_glyph}
use Rattle.xp_facilities.specs.Items.{Item}
use Rattle.xp_words.specs.Names.{facilities, name_in, reasons}
use Rattle.xp_words.specs.Octets.{hex_pair, hex_text}

-- octets behind their name, if there are any
abbrev pub value_text : List ℕ → List ℕ
value_text [] = []
value_text (octet ∷ octets) = codes " " ++ hex_text (octet ∷ octets)

-- the name, or else the code; then the parameters in hexadecimal
abbrev pub named_text : ℕ → List ℕ → List ℕ
named_text code parameters = unwrap_or (name_in facilities code) (codes "facility " ++ hex_pair code) ++ value_text parameters

-- fast select in bits 8 and 7, reverse charging in bit 1
abbrev pub fast_select_text : ℕ → List ℕ
fast_select_text octet =
    if octet / 64 == 2 then codes "fast select" else if octet / 64 == 3 then codes "restricted fast select" else codes "no fast select"

abbrev pub reverse_charging_text : ℕ → List ℕ
reverse_charging_text octet = if octet % 2 == 1 then codes "reverse charging, " else []

abbrev pub request_text : ℕ → List ℕ
request_text octet = if octet % 2 == 1 then codes "requested" else codes "not requested"

-- a reason, or else its octet
abbrev pub reason_text : ℕ → List ℕ
reason_text octet = unwrap_or (name_in reasons octet) (hex_pair octet)

-- a packet size in octets; a power of two outside its range is told as its octet
abbrev pub size_text : ℕ → List ℕ
size_text power = if nat_le 4 power && nat_le power 12 then decimal (2 ^ power) else hex_pair power

abbrev pub one_octet_text : ℕ → ℕ → List ℕ
one_octet_text code octet =
    if code == 0x01 then reverse_charging_text octet ++ fast_select_text octet
    else if code == 0x04 then codes "charging information " ++ request_text octet
    else if code == 0x08 then codes "called line address modified (" ++ reason_text octet ++ codes ")"
    else named_text code (octet ∷ [])

-- both sizes: of packets from the called DTE, and from the calling DTE
abbrev pub two_octets_text : ℕ → ℕ → ℕ → List ℕ
two_octets_text code called calling =
    if code == 0x42 then codes "packet size " ++ size_text called ++ codes "/" ++ size_text calling
    else if code == 0x43 then codes "window " ++ decimal called ++ codes "/" ++ decimal calling
    else named_text code (called ∷ calling ∷ [])

-- an address of so many digits in half-octets; the last octet of an odd count has one digit
abbrev pub half_octets_text : ℕ → List ℕ → List ℕ
half_octets_text count octets =
    if count % 2 == 1 && nat_lt (count / 2) (length octets)
    then hex_text (take (count / 2) octets) ++ digit_glyph false (slice_index octets (count / 2) / 16) ∷ []
    else hex_text octets

abbrev pub redirection_text : ℕ → ℕ → List ℕ → List ℕ
redirection_text reason count digits = codes "call redirection (" ++ reason_text reason ++ codes ") from " ++ half_octets_text count digits

-- a facility, by its code and parameters
abbrev pub parameters_text : ℕ → List ℕ → List ℕ
parameters_text code [] = named_text code []
parameters_text code (octet ∷ []) = one_octet_text code octet
parameters_text code (called ∷ calling ∷ []) = two_octets_text code called calling
parameters_text code (reason ∷ count ∷ digit ∷ digits) =
    if code == 0xc3 then redirection_text reason count (digit ∷ digits) else named_text code (reason ∷ count ∷ digit ∷ digits)

abbrev pub facility_text : Item → List ℕ
facility_text item = parameters_text item.code item.parameters

-- an item whose parameters are the first `count` octets, and the octets behind it
abbrev pub cut : ℕ → ℕ → List ℕ → Option (Item × List ℕ)
cut code count octets = if nat_le count (length octets) then Some (record { code = code; parameters = take count octets }, drop count octets) else None

-- the facility at the front, and the octets behind it; none at a marker, at the end, or where the facility is cut off
abbrev pub first_facility : List ℕ → Option (Item × List ℕ)
first_facility [] = None
first_facility (code ∷ []) = None
first_facility (code ∷ octet ∷ octets) =
    if code == 0 then None
    else if nat_lt code 192 then cut code (code / 64 + 1) (octet ∷ octets)
    else cut code octet octets

-- what is behind those facilities: a marker with the octets behind it, or a facility that is cut off
abbrev pub rest_text : List ℕ → List ℕ
rest_text [] = []
rest_text (code ∷ []) = codes ", cut off " ++ hex_text (code ∷ [])
rest_text (code ∷ octet ∷ octets) =
    if code == 0 then codes ", marker " ++ hex_pair octet ++ value_text octets else codes ", cut off " ++ hex_text (code ∷ octet ∷ octets)

-- the first facilities, at most so many, and what is behind them
unfoldable pub facilities_text : ℕ → List ℕ → List ℕ
facilities_text zero field = rest_text field
facilities_text (suc most) field =
    elim (first_facility field) [ None ↦ rest_text field | Some front ↦ codes ", " ++ facility_text front.0 ++ facilities_text most front.1 ]

-- a whole facility field
abbrev pub field_text : List ℕ → List ℕ
field_text field = facilities_text (length field) field
