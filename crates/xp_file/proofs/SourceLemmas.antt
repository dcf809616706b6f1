-- The addresses from which connections may come: how many there are, and their form.
use Rattle.std.proofs.Common.{◌≡◌, ℕ, inl, inr, List, [], ◌∷◌, true, false, cond, Option, None, Some, option_and_then, option_map, Ok, Err, IsTrue, All, length, suc, refl, sym, ap, subst, ◌∙◌, arith}
use Rattle.std.proofs.lemmas.Bool.{and_parts, cases_Bool, leb-true}
use Rattle.std.proofs.lemmas.List.Elements.{All-nil, All-cons}
use Rattle.std.specs.Prelude.{nat_le}
use Rattle.toml.specs.Data.{Data, Items, no_items, item, Members, as_str, as_array, get_member}
use Rattle.toml.specs.View.{view, items_view}
use Rattle.toml.specs.declared.value.Value.{Value}
use Rattle.xp_file.specs.declared.fault.SubscriptionFault.TheVariants as faults
use Rattle.xp_file.specs.declared.key.Key.TheVariants as keys
use Rattle.xp_file.specs.Keys.{key_text}
use Rattle.xp_file.specs.Reading.{each_item, source_in, sources_among, sources_in, ok_at, defaulted}
use Rattle.xp_file.specs.Sources.{is_source, are_few, AreSources}
use Rattle.xp_file.proofs.Choices.{none_is_some, err_is_ok}
use Rattle.xp_file.proofs.EachLemmas.{form_of}

-- what was read of one value and of those behind it
first_and_rest : {A : Type 0} (t : Option A) (ts : Option (List A)) (xs : List A)
    → option_and_then (λ first. option_map (λ l. first ∷ l) ts) t ≡ Some xs → (x : A) × (l : List A) × (t ≡ Some x) × (ts ≡ Some l) × (x ∷ l ≡ xs)
first_and_rest None ts xs e = let never : None ≡ Some xs = e in absurd (none_is_some never)
first_and_rest (Some x) None xs e = let never : None ≡ Some xs = e in absurd (none_is_some never)
first_and_rest (Some x) (Some l) xs e = let all : Some (x ∷ l) ≡ Some xs = e in (x, l, refl, refl, cc)

-- as many texts as values
pub length-each_item : {A : Type 0} (read : Data → Option A) (values : List Value) (xs : List A) → each_item read (items_view values) ≡ Some xs → length xs ≡ length values
length-each_item read [] xs e = let none : [] ≡ xs = cc in ap length (sym none)
length-each_item read (value ∷ values) xs e =
    let (x, l, here, these, all) = first_and_rest (read (view value)) (each_item read (items_view values)) xs e in
    ap length (sym all) ∙ ap suc (length-each_item read values l these)

-- each of them has the form
each_spelled : (values : Items) (texts : List (List ℕ)) → each_item source_in values ≡ Some texts → All (λ text. IsTrue (is_source text)) texts
each_spelled no_items texts e = let none : [] ≡ texts = cc in subst (All (λ text. IsTrue (is_source text))) none (All-nil (λ text. IsTrue (is_source text)))
each_spelled (item value more) texts e =
    let (text, rest, here, these, all) = first_and_rest (source_in value) (each_item source_in more) texts e in
    subst (All (λ text. IsTrue (is_source text))) all
    (All-cons (λ text. IsTrue (is_source text)) text rest (form_of is_source (as_str value) text here) (each_spelled more rest these))

few_form : (read : Option (List (List ℕ))) (texts : List (List ℕ)) → ((all : List (List ℕ)) → read ≡ Some all → All (λ text. IsTrue (is_source text)) all)
    → option_and_then (λ all. cond (are_few (length all)) (Some all) None) read ≡ Some texts → AreSources texts
few_form None texts each e = let never : None ≡ Some texts = e in absurd (none_is_some never)
few_form (Some all) texts each e =
    elim (cases_Bool (are_few (length all))) [
      | inl few ↦
          let is : Some all ≡ Some texts = rw few at e in
          let this : all ≡ texts = cc in
          let both = and_parts (nat_le 1 (length all)) (nat_le (length all) 8) few in
          subst AreSources this (record { few = leb-true (length all) 8 both.1; spelled = each all refl })
      | inr many ↦ let never : None ≡ Some texts = rw many at e in absurd (none_is_some never)
    ]

among_form : (values : Items) (texts : List (List ℕ)) → sources_among values ≡ Some texts → AreSources texts
among_form values texts e = few_form (each_item source_in values) texts (each_spelled values) e

in_form : (value : Data) (texts : List (List ℕ)) → sources_in value ≡ Some texts → AreSources texts
in_form value texts e = by (as_array value) refl
  where
    by : (array : Option Items) → as_array value ≡ array → AreSources texts
    by None alone = among_form (item value no_items) texts (rw alone at e)
    by (Some values) is = among_form values texts (rw is at e)

-- what was read under the key, or nothing, has the form
pub sources_form : (table : Members) (texts : List (List ℕ)) → defaulted sources_in [] keys.From table ≡ Ok texts → AreSources texts
sources_form table texts e = by (get_member (key_text keys.From) table) refl
  where
    some_of : (read : Option (List (List ℕ))) → ok_at keys.From read ≡ Ok texts → read ≡ Some texts
    some_of None e = let never : Err (faults.Field keys.From) ≡ Ok texts = e in absurd (err_is_ok never)
    some_of (Some read) e = let made : Ok read ≡ Ok texts = e in cc

    by : (value : Option Data) → get_member (key_text keys.From) table ≡ value → AreSources texts
    by None none =
        let made : Ok [] ≡ Ok texts = rw none at e in
        let this : [] ≡ texts = cc in
        subst AreSources this (record { few = omega arith; spelled = All-nil (λ text. IsTrue (is_source text)) })
    by (Some value) is = in_form value texts (some_of (sources_in value) (rw is at e))

-- the text of one value, where it is one
pub no_text : (value : Data) → as_str value ≡ None → source_in value ≡ None
no_text value none = rw none refl

pub other_text : (value : Data) (text : List ℕ) → as_str value ≡ Some text → is_source text ≡ false → source_in value ≡ None
other_text value text is other = rw (is, other) refl

pub source_text : (value : Data) (text : List ℕ) → as_str value ≡ Some text → is_source text ≡ true → source_in value ≡ Some text
source_text value text is spelled = rw (is, spelled) refl

pub none_among : (values : List Value) → each_item source_in (items_view values) ≡ None → sources_among (items_view values) ≡ None
none_among values none = rw none refl

-- an array without a value, or with more than 8, has no sources
pub not_few : (values : List Value) → are_few (length values) ≡ false → sources_among (items_view values) ≡ None
not_few values many = by (each_item source_in (items_view values)) refl
  where
    by : (read : Option (List (List ℕ))) → each_item source_in (items_view values) ≡ read → sources_among (items_view values) ≡ None
    by None none = none_among values none
    by (Some texts) is = let long = length-each_item source_in values texts is in rw (is, long, many) refl
