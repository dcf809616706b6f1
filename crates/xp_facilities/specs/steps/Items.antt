-- Reading the items of a facility field one after the other, as private functions do it (X.25 clause 7.1).
use Rattle.std.specs.Prelude.{ℕ, suc, zero, ◌+◌, ◌/◌, nat_lt, nat_le, if◌then◌else◌, List, [], ◌∷◌, length, take, drop, Option, Some, None}
use Rattle.xp_facilities.specs.Items.{Item}

-- an item whose parameters are the first `count` octets, and the octets after it
unfoldable pub cut : ℕ → ℕ → List ℕ → Option (Item × List ℕ)
cut code count octets = if nat_le count (length octets) then Some (record { code = code; parameters = take count octets }, drop count octets) else None

-- the same, where a length octet comes first
unfoldable pub cut_counted : ℕ → List ℕ → Option (Item × List ℕ)
cut_counted code [] = None
cut_counted code (count ∷ octets) = cut code count octets

-- the first item, and the octets after it
unfoldable pub first_item : List ℕ → Option (Item × List ℕ)
first_item [] = None
first_item (code ∷ octets) = if nat_lt code 192 then cut code (code / 64 + 1) octets else cut_counted code octets

-- the first items, at most this many
unfoldable pub first_items : ℕ → List ℕ → List Item
first_items zero octets = []
first_items (suc most) octets = elim (first_item octets) [ None ↦ [] | Some front ↦ front.0 ∷ first_items most front.1 ]

-- the items of a facility field
unfoldable pub items_of : List ℕ → List Item
items_of field = first_items (length field) field
