-- How the values of the keys are read from the tables of a TOML document.
use Rattle.std.specs.Prelude.{ℕ, ℤ, pos, List, [], ◌∷◌, Bool, true, false, ◌&&◌, Option, None, Some, Result, Ok, Err, option_and_then, option_map, map, length, nat_le, nat_eq, if◌then◌else◌}
use Rattle.std.specs.List.{list_any}
use Rattle.toml.specs.Data.{Data, Items, no_items, item, Members, no_members, member, get_member, as_str, as_integer, as_bool, as_array, as_table}
use Rattle.xp_file.specs.declared.fault.SubscriptionFault.{SubscriptionFault}
use Rattle.xp_file.specs.declared.fault.SubscriptionFault.TheVariants as faults
use Rattle.xp_file.specs.declared.key.Key.{Key}
use Rattle.xp_file.specs.Address.{is_address, digit_of}
use Rattle.xp_file.specs.Keys.{key_text}
use Rattle.xp_file.specs.Name.{is_line_name, is_group_name}
use Rattle.xp_file.specs.Name.{same}
use Rattle.xp_file.specs.Routers.{RouterData, router_spelled}
use Rattle.xp_file.specs.Sources.{is_source, are_few}
use Rattle.xp_packets.specs.declared.modulus.Modulus.{Modulus}
use Rattle.xp_packets.specs.declared.modulus.Modulus.TheVariants.{Eight, Long}

infixl 10 ◌>>=◌
-- if reading succeeded, continues with `next`; otherwise keeps the fault
abbrev pub ◌>>=◌ : {A B : Type 0} → Result A SubscriptionFault → (A → Result B SubscriptionFault) → Result B SubscriptionFault
Ok x >>= next = next x
Err fault >>= next = Err fault

-- a number from `low` to `high`
abbrev pub within : ℕ → ℕ → ℤ → Option ℕ
within low high (pos n) = if nat_le low n && nat_le n high then Some n else None
within low high _ = None

abbrev pub number_in : ℕ → ℕ → Data → Option ℕ
number_in low high value = option_and_then (within low high) (as_integer value)

-- the modulus with this many packet numbers: 8 or 128 (X.25 clause 4.4.1.1)
abbrev pub modulus_of : ℕ → Option Modulus
modulus_of count = if nat_eq count 8 then Some Eight else (if nat_eq count 128 then Some Long else None)

abbrev pub modulus_in : Data → Option Modulus
modulus_in value = option_and_then modulus_of (number_in 8 128 value)

-- a text of this form
abbrev pub text_of : (List ℕ → Bool) → Data → Option (List ℕ)
text_of form value = option_and_then (λ text. if form text then Some text else None) (as_str value)

abbrev pub line_name_in : Data → Option (List ℕ)
line_name_in = text_of is_line_name

abbrev pub group_name_in : Data → Option (List ℕ)
group_name_in = text_of is_group_name

abbrev pub address_in : Data → Option (List ℕ)
address_in value = option_map (map digit_of) (text_of is_address value)

abbrev pub router_in : Data → Option RouterData
router_in value = option_and_then router_spelled (as_str value)

-- what is read of each value of an array; none if one of them cannot be read
abbrev pub each_item : {A : Type 0} → (Data → Option A) → Items → Option (List A)
each_item read no_items = Some []
each_item read (item value more) = option_and_then (λ x. option_map (λ xs. x ∷ xs) (each_item read more)) (read value)

-- the values as tables; none if one of them is not a table
abbrev pub tables_among : Items → Option (List Members)
tables_among = each_item as_table

abbrev pub tables_in : Data → Option (List Members)
tables_in value = option_and_then tables_among (as_array value)

-- an array of at least one table
abbrev pub some_tables_in : Data → Option (List Members)
some_tables_in value = option_and_then some (tables_in value) where
  some : List Members → Option (List Members)
  some [] = None
  some (table ∷ tables) = Some (table ∷ tables)

abbrev pub source_in : Data → Option (List ℕ)
source_in = text_of is_source

-- 1 to 8 texts, each of the form of an address
abbrev pub sources_among : Items → Option (List (List ℕ))
sources_among values = option_and_then few (each_item source_in values) where
  few : List (List ℕ) → Option (List (List ℕ))
  few texts = if are_few (length texts) then Some texts else None

-- an array of such texts, or one alone
abbrev pub sources_in : Data → Option (List (List ℕ))
sources_in value = sources_among (values (as_array value)) where
  values : Option Items → Items
  values None = item value no_items
  values (Some more) = more

-- the value, or the fault of its key
abbrev pub ok_at : {A : Type 0} → Key → Option A → Result A SubscriptionFault
ok_at key (Some x) = Ok x
ok_at key None = Err (faults.Field key)

-- a key that the table must have
abbrev pub required : {A : Type 0} → (Data → Option A) → Key → Members → Result A SubscriptionFault
required read key table = ok_at key (option_and_then read (get_member (key_text key) table))

-- a key that may be missing, with its default value
abbrev pub defaulted : {A : Type 0} → (Data → Option A) → A → Key → Members → Result A SubscriptionFault
defaulted {A} read absent key table = found (get_member (key_text key) table) where
  found : Option Data → Result A SubscriptionFault
  found None = Ok absent
  found (Some value) = ok_at key (read value)

abbrev pub optional : {A : Type 0} → (Data → Option A) → Key → Members → Result (Option A) SubscriptionFault
optional read key table = defaulted (λ value. option_map (λ x. Some x) (read value)) None key table

abbrev pub flag : Key → Members → Result Bool SubscriptionFault
flag key table = defaulted as_bool false key table

-- reads each table in turn
abbrev pub each : {A : Type 0} → (Members → Result A SubscriptionFault) → List Members → Result (List A) SubscriptionFault
each read [] = Ok []
each read (table ∷ tables) = do
  x ← read table
  xs ← each read tables
  Ok (x ∷ xs)

-- checks one key in each table in turn; stops at the first fault
abbrev pub examined : {A : Type 0} → (Members → Result A SubscriptionFault) → List Members → Result (Unit {0}) SubscriptionFault
examined read [] = Ok tt
examined read (table ∷ tables) = do
  x ← read table
  examined read tables

-- the table has no other keys
abbrev pub has_only : List Key → Members → Bool
has_only listed no_members = true
has_only listed (member key value more) = list_any (λ known. same (key_text known) key) listed && has_only listed more

-- continues with `next` if a test passes; otherwise the fault
abbrev pub checked : {A : Type 0} → Bool → SubscriptionFault → Result A SubscriptionFault → Result A SubscriptionFault
checked true fault next = next
checked false fault next = Err fault
