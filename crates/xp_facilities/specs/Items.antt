-- Facility items and fields (X.25 clause 7.1).
use Rattle.std.specs.Prelude.{ℕ, ◌+◌, ◌/◌, ◌<◌, ◌≡◌, nat_lt, if◌then◌else◌, List, ◌∷◌, length}
use Rattle.std.specs.List.{flat_map, AllByRecursion}

-- A facility: its code and its parameters.
pub record Item : Type 0 where
  pub code : ℕ
  pub parameters : List ℕ

-- Bits 8 and 7 of the code are its class: one, two or three octets of parameters, or a length octet and as many
-- octets as it says.
abbrev pub IsItem : Item → Type 0
IsItem item = item.code < 192 → length item.parameters ≡ item.code / 64 + 1

-- the octets of an item
abbrev pub octets_of : Item → List ℕ
octets_of item = item.code ∷ (if nat_lt item.code 192 then item.parameters else length item.parameters ∷ item.parameters)

-- the octets of the items, one item after the other
abbrev pub octets_of_all : List Item → List ℕ
octets_of_all = flat_map octets_of

-- A facility field is the concatenation of its items.
pub record IsField (field : List ℕ) (items : List Item) : Type 0 where
  pub each : AllByRecursion IsItem items
  pub whole : field ≡ octets_of_all items
