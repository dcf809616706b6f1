-- A number that is read of a key lies in its range.
use Rattle.std.proofs.Common.{arith, ◌≡◌, ℕ, ◌≤◌, ℤ, pos, ◌&&◌, inl, inr, Option, None, Some, Ok, Err, option_and_then, option_map, refl}
use Rattle.std.proofs.lemmas.Bool.{and_parts, cases_Bool, leb-true}
use Rattle.std.specs.Prelude.{nat_le}
use Rattle.toml.specs.Data.{Data, Members, as_integer, get_member}
use Rattle.xp_file.specs.declared.fault.SubscriptionFault.TheVariants as faults
use Rattle.xp_file.specs.declared.key.Key.{Key}
use Rattle.xp_file.specs.Keys.{key_text}
use Rattle.xp_file.specs.Reading.{within, number_in, ok_at, required, optional, defaulted}
use Rattle.xp_file.proofs.Choices.{none_is_some, err_is_ok}

in_range : (low high : ℕ) (number : Option ℤ) (x : ℕ) → option_and_then (within low high) number ≡ Some x → (low ≤ x) × (x ≤ high)
in_range low high None x e = let never : None ≡ Some x = e in absurd (none_is_some never)
in_range low high (Some (pos n)) x e =
    elim (cases_Bool (nat_le low n && nat_le n high)) [
      | inl passed ↦
          let is : Some n ≡ Some x = rw passed at e in
          let this : n ≡ x = cc in
          let both = and_parts (nat_le low n) (nat_le n high) passed in
          rw (← this) (leb-true low n both.0, leb-true n high both.1)
      | inr failed ↦ let never : None ≡ Some x = rw failed at e in absurd (none_is_some never)
    ]
in_range low high (Some number) x e = let never : None ≡ Some x = e in absurd (none_is_some never)

found : (low high : ℕ) (key : Key) (value : Option Data) (x : ℕ) → ok_at key (option_and_then (number_in low high) value) ≡ Ok x → (low ≤ x) × (x ≤ high)
found low high key None x e = let never : Err (faults.Field key) ≡ Ok x = e in absurd (err_is_ok never)
found low high key (Some value) x e = in_range low high (as_integer value) x (some_of key (number_in low high value) x e)
  where
    some_of : (key : Key) (o : Option ℕ) (x : ℕ) → ok_at key o ≡ Ok x → o ≡ Some x
    some_of key None x e = let never : Err (faults.Field key) ≡ Ok x = e in absurd (err_is_ok never)
    some_of key (Some y) x e = let made : Ok y ≡ Ok x = e in cc

pub required_range : (low high : ℕ) (key : Key) (table : Members) (x : ℕ) → required (number_in low high) key table ≡ Ok x → (low ≤ x) × (x ≤ high)
required_range low high key table x e = found low high key (get_member (key_text key) table) x e

pub optional_range : (low high : ℕ) (key : Key) (table : Members) (x : ℕ) → optional (number_in low high) key table ≡ Ok (Some x) → (low ≤ x) × (x ≤ high)
optional_range low high key table x e = by (get_member (key_text key) table) refl
  where
    some_of : (value : Data) (number : Option ℕ) → ok_at key (option_map (λ y. Some y) number) ≡ Ok (Some x) → number ≡ Some x
    some_of value None e = let never : Err (faults.Field key) ≡ Ok (Some x) = e in absurd (err_is_ok never)
    some_of value (Some y) e = let made : Ok (Some y) ≡ Ok (Some x) = e in cc

    by : (value : Option Data) → get_member (key_text key) table ≡ value → (low ≤ x) × (x ≤ high)
    by None none = let never : Ok None ≡ Ok (Some x) = rw none at e in cc
    by (Some value) is = in_range low high (as_integer value) x (some_of value (number_in low high value) (rw is at e))

pub defaulted_range : (low high absent most : ℕ) (key : Key) (table : Members) (x : ℕ) → low ≤ absent → absent ≤ most → high ≤ most
    → defaulted (number_in low high) absent key table ≡ Ok x → (low ≤ x) × (x ≤ most)
defaulted_range low high absent most key table x least greatest beyond e = by (get_member (key_text key) table) refl
  where
    by : (value : Option Data) → get_member (key_text key) table ≡ value → (low ≤ x) × (x ≤ most)
    by None none =
        let made : Ok absent ≡ Ok x = rw none at e in
        let this : absent ≡ x = cc in
        rw (← this) (least, greatest)
    by (Some value) is =
        let range = found low high key (Some value) x (rw is at e) in
        let within = range.1 in
        (range.0, omega (arith, within, beyond))
