-- What is read of an array of tables.
use Rattle.std.proofs.Common.{◌≡◌, ◌∙◌, ◌<◌, List, [], ◌∷◌, None, Some, Result, Ok, Err, IfOk, IfErr, ap, arith, length, refl}
use Rattle.toml.specs.Data.{Data, Items, Members, as_array, get_member}
use Rattle.toml.specs.View.{items_view}
use Rattle.toml.specs.declared.value.Value.{Value}
use Rattle.xp_file.specs.declared.fault.SubscriptionFault.TheVariants as faults
use Rattle.xp_file.specs.declared.key.Key.{Key}
use Rattle.xp_file.specs.Keys.{key_text}
use Rattle.xp_file.specs.Reading.{defaulted, ok_at, required, some_tables_in, tables_among, tables_in}

some_are : (value : Data) (tables : List Members) → tables_in value ≡ Some tables → 0 < length tables → some_tables_in value ≡ Some tables
some_are value [] is some = absurd (omega arith)
some_are value (table ∷ tables) is some = rw is refl

some_are_not : (value : Data) → tables_in value ≡ None → some_tables_in value ≡ None
some_are_not value none = rw none refl

none_are : (value : Data) → tables_in value ≡ Some [] → some_tables_in value ≡ None
none_are value is = rw is refl

-- a key with an array
module _ (key : Key) (table : Members) (value : Data) (items : Items) (found : get_member (key_text key) table ≡ Some value) (array : as_array value ≡ Some items) where
  read_among : tables_in value ≡ tables_among items
  read_among = rw array refl

  defaulted_at : defaulted tables_in [] key table ≡ ok_at key (tables_among items)
  defaulted_at = rw (found, array) refl

  required_at : required some_tables_in key table ≡ ok_at key (some_tables_in value)
  required_at = rw found refl

  pub tables_read : (tables : List Members) → tables_among items ≡ Some tables → defaulted tables_in [] key table ≡ Ok tables
  tables_read tables is = defaulted_at ∙ ap (ok_at key) is

  pub tables_refused : tables_among items ≡ None → defaulted tables_in [] key table ≡ Err (faults.Field key)
  tables_refused none = defaulted_at ∙ ap (ok_at key) none

  pub some_read : (tables : List Members) → tables_among items ≡ Some tables → 0 < length tables → required some_tables_in key table ≡ Ok tables
  some_read tables is some = required_at ∙ ap (ok_at key) (some_are value tables (read_among ∙ is) some)

  pub some_refused : tables_among items ≡ None → required some_tables_in key table ≡ Err (faults.Field key)
  some_refused none = required_at ∙ ap (ok_at key) (some_are_not value (read_among ∙ none))

  pub none_read : tables_among items ≡ Some [] → required some_tables_in key table ≡ Err (faults.Field key)
  none_read is = required_at ∙ ap (ok_at key) (none_are value (read_among ∙ is))

pub empty_among : (values : List Value) → length values ≡ 0 → tables_among (items_view values) ≡ Some []
empty_among [] none = refl
empty_among (value ∷ values) none = absurd (omega arith)

-- what is known of a result
pub ok_then : {X E : Type 0} {P Q : X → Type 0} (result : Result X E) → ((x : X) → P x → Q x) → IfOk result P → IfOk result Q
ok_then (Ok x) then is = then x is
ok_then (Err fault) then is = tt

pub ok_then_too : {X E : Type 0} {P Q R : X → Type 0} (result : Result X E) → ((x : X) → P x → Q x → R x) → IfOk result P → IfOk result Q → IfOk result R
ok_then_too (Ok x) then is too = then x is too
ok_then_too (Err fault) then is too = tt

pub err_then : {X E : Type 0} {P Q : E → Type 0} (result : Result X E) → ((fault : E) → P fault → Q fault) → IfErr result P → IfErr result Q
err_then (Ok x) then is = tt
err_then (Err fault) then is = then fault is
