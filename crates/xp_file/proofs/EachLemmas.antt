-- Reading item by item.
use Rattle.std.specs.List.{list_all}
use Rattle.std.proofs.lemmas.List.Folds.{list_all-map}
use Rattle.std.proofs.Common.{◌≡◌, Bool, true, cond, IsTrue, All, inl, inr, ℕ, ◌+◌, ◌<◌, List, [], ◌∷◌, ◌++◌, Option, None, Some, option_and_then, option_map, Result, Ok, Err, map, suc, take, drop, length, get_or, refl, sym, ap, subst, ◌∙◌}
use Rattle.std.proofs.lemmas.List.{map-append}
use Rattle.toml.specs.declared.value.Value.{Value}
use Rattle.std.proofs.lemmas.Bool.{cases_Bool}
use Rattle.std.proofs.lemmas.List.Elements.{All-nil, All-cons}
use Rattle.toml.specs.Data.{Data, Members, as_str, get_member}
use Rattle.toml.specs.View.{view, items_view}
use Rattle.xp_file.specs.declared.fault.SubscriptionFault.{SubscriptionFault}
use Rattle.xp_file.specs.Reading.{◌>>=◌, each, examined, each_item, required, line_name_in, ok_at}
use Rattle.xp_file.specs.declared.fault.SubscriptionFault.TheVariants as faults
use Rattle.xp_file.specs.declared.key.Key.TheVariants as keys
use Rattle.xp_file.specs.Keys.{key_text}
use Rattle.xp_file.specs.Name.{is_line_name}
use Rattle.xp_file.proofs.Choices.{none_is_some, err_is_ok}
use Rattle.xp_file.proofs.Lists.{cut, front_more, rest_at}

module _ {A : Type 0} where
  push_step : (r : Result A SubscriptionFault) (rs more : Result (List A) SubscriptionFault) (xs : List A) (x : A)
      → (r >>= λ y. rs >>= λ ys. Ok (y ∷ ys)) ≡ Ok xs → ((ys : List A) → rs ≡ Ok ys → more ≡ Ok (ys ++ x ∷ []))
      → (r >>= λ y. more >>= λ ys. Ok (y ∷ ys)) ≡ Ok (xs ++ x ∷ [])
  push_step (Err fault) rs more xs x before next = let never : Err fault ≡ Ok xs = before in cc
  push_step (Ok y) (Err fault) more xs x before next = let never : Err fault ≡ Ok xs = before in cc
  push_step (Ok y) (Ok ys) more xs x before next =
      let all : Ok (y ∷ ys) ≡ Ok xs = before in
      let same_list : y ∷ ys ≡ xs = cc in
      rw (next ys refl, ← same_list)

  refused_step : (r : Result A SubscriptionFault) (rs more : Result (List A) SubscriptionFault) (xs : List A) (fault : SubscriptionFault)
      → (r >>= λ y. rs >>= λ ys. Ok (y ∷ ys)) ≡ Ok xs → ((ys : List A) → rs ≡ Ok ys → more ≡ Err fault)
      → (r >>= λ y. more >>= λ ys. Ok (y ∷ ys)) ≡ Err fault
  refused_step (Err other) rs more xs fault before next = let never : Err other ≡ Ok xs = before in cc
  refused_step (Ok y) (Err other) more xs fault before next = let never : Err other ≡ Ok xs = before in cc
  refused_step (Ok y) (Ok ys) more xs fault before next = rw (next ys refl)

module _ {A : Type 0} (read : Members → Result A SubscriptionFault) where
  each-push : (tables : List Members) (table : Members) (xs : List A) (x : A)
      → each read tables ≡ Ok xs → read table ≡ Ok x → each read (tables ++ table ∷ []) ≡ Ok (xs ++ x ∷ [])
  each-push [] table xs x before here = let none : [] ≡ xs = cc in rw (here, ← none)
  each-push (first ∷ tables) table xs x before here =
      push_step (read first) (each read tables) (each read (tables ++ table ∷ [])) xs x before
      (λ ys these. each-push tables table ys x these here)

  each-refused : (tables : List Members) (table : Members) (more : List Members) (xs : List A) (fault : SubscriptionFault)
      → each read tables ≡ Ok xs → read table ≡ Err fault → each read (tables ++ table ∷ more) ≡ Err fault
  each-refused [] table more xs fault before here = rw here
  each-refused (first ∷ tables) table more xs fault before here =
      refused_step (read first) (each read tables) (each read (tables ++ table ∷ more)) xs fault before
      (λ ys these. each-refused tables table more ys fault these here)

  module _ {X : Type 0} (shown : X → Members) (xs : List X) (i : ℕ) (x : X) (ys : List A) where
    -- one more table was read
    pub each_more : (y : A) → i < length xs → x ≡ get_or xs i x → each read (map shown (take i xs)) ≡ Ok ys → read (shown x) ≡ Ok y
        → each read (map shown (take (i + 1) xs)) ≡ Ok (ys ++ y ∷ [])
    each_more y within here before read_here =
        ap (λ l. each read (map shown l)) (front_more xs i x within here)
        ∙ ap (each read) (map-append shown (take i xs) (x ∷ []))
        ∙ each-push (map shown (take i xs)) (shown x) ys y before read_here

    -- the first that is refused decides
    pub each_refused : (fault : SubscriptionFault) → i < length xs → x ≡ get_or xs i x → each read (map shown (take i xs)) ≡ Ok ys
        → read (shown x) ≡ Err fault → each read (map shown xs) ≡ Err fault
    each_refused fault within here before read_here =
        ap (λ l. each read (map shown l)) (cut xs i x within here)
        ∙ ap (each read) (map-append shown (take i xs) (x ∷ drop (i + 1) xs))
        ∙ each-refused (map shown (take i xs)) (shown x) (map shown (drop (i + 1) xs)) ys fault before read_here

-- a key of each table in turn
module _ {A X : Type 0} (read : Members → Result A SubscriptionFault) (shown : X → Members) (xs : List X) (i : ℕ) (x : X) where
  pub examined_more : (y : A) → i < length xs → x ≡ get_or xs i x → read (shown x) ≡ Ok y
      → examined read (map shown (drop i xs)) ≡ examined read (map shown (drop (i + 1) xs))
  examined_more y within here read_here = ap (λ l. examined read (map shown l)) (rest_at xs i x within here) ∙ rw read_here

  pub examined_refused : (fault : SubscriptionFault) → i < length xs → x ≡ get_or xs i x → read (shown x) ≡ Err fault
      → examined read (map shown (drop i xs)) ≡ Err fault
  examined_refused fault within here read_here = ap (λ l. examined read (map shown l)) (rest_at xs i x within here) ∙ rw read_here

-- one more value of an array
push_value : {A : Type 0} (t : Option A) (ts more : Option (List A)) (xs : List A) (x : A)
    → option_and_then (λ first. option_map (λ l. first ∷ l) ts) t ≡ Some xs
    → ((l : List A) → ts ≡ Some l → more ≡ Some (l ++ x ∷ []))
    → option_and_then (λ first. option_map (λ l. first ∷ l) more) t ≡ Some (xs ++ x ∷ [])
push_value None ts more xs x before next = let never : None ≡ Some xs = before in cc
push_value (Some first) None more xs x before next = let never : None ≡ Some xs = before in cc
push_value (Some first) (Some l) more xs x before next =
    let all : Some (first ∷ l) ≡ Some xs = before in
    let same_list : first ∷ l ≡ xs = cc in
    rw (next l refl, ← same_list)

no_value : {A : Type 0} (t : Option A) (more : Option (List A)) → more ≡ None → option_and_then (λ first. option_map (λ l. first ∷ l) more) t ≡ None
no_value None more none = refl
no_value (Some first) more none = rw none

module _ {A : Type 0} (read : Data → Option A) where
  each_item-push : (values : List Value) (value : Value) (xs : List A) (x : A)
      → each_item read (items_view values) ≡ Some xs → read (view value) ≡ Some x
      → each_item read (items_view (values ++ value ∷ [])) ≡ Some (xs ++ x ∷ [])
  each_item-push [] value xs x before here = let none : [] ≡ xs = cc in rw (here, ← none)
  each_item-push (first ∷ values) value xs x before here =
      push_value (read (view first)) (each_item read (items_view values)) (each_item read (items_view (values ++ value ∷ []))) xs x before
      (λ l these. each_item-push values value l x these here)

  each_item-refused : (values : List Value) (value : Value) (more : List Value)
      → read (view value) ≡ None → each_item read (items_view (values ++ value ∷ more)) ≡ None
  each_item-refused [] value more here = rw here
  each_item-refused (first ∷ values) value more here =
      no_value (read (view first)) _ (each_item-refused values value more here)

  module _ (values : List Value) (i : ℕ) (value : Value) where
    pub items_more : (xs : List A) (x : A) → i < length values → value ≡ get_or values i value
        → each_item read (items_view (take i values)) ≡ Some xs → read (view value) ≡ Some x
        → each_item read (items_view (take (i + 1) values)) ≡ Some (xs ++ x ∷ [])
    items_more xs x within here before shown =
        ap (λ l. each_item read (items_view l)) (front_more values i value within here)
        ∙ each_item-push (take i values) value xs x before shown

    pub items_refused : i < length values → value ≡ get_or values i value → read (view value) ≡ None → each_item read (items_view values) ≡ None
    items_refused within here shown =
        ap (λ l. each_item read (items_view l)) (cut values i value within here)
        ∙ each_item-refused (take i values) value (drop (i + 1) values) shown

-- a test of each table, as it is shown
pub list_all_shown : {X Y : Type 0} (p : Y → Bool) (shown : X → Y) (xs : List X) → list_all p (map shown xs) ≡ list_all (λ x. p (shown x)) xs
list_all_shown p shown xs = list_all-map p shown xs

length_step : {A : Type 0} (r : Result A SubscriptionFault) (rs : Result (List A) SubscriptionFault) (n : ℕ) (xs : List A)
    → (r >>= λ y. rs >>= λ ys. Ok (y ∷ ys)) ≡ Ok xs → ((ys : List A) → rs ≡ Ok ys → length ys ≡ n) → length xs ≡ suc n
length_step (Err fault) rs n xs all more = let never : Err fault ≡ Ok xs = all in cc
length_step (Ok y) (Err fault) n xs all more = let never : Err fault ≡ Ok xs = all in cc
length_step (Ok y) (Ok ys) n xs all more =
    let same_list : y ∷ ys ≡ xs = (let e : Ok (y ∷ ys) ≡ Ok xs = all in cc) in
    ap length (sym same_list) ∙ ap suc (more ys refl)

-- as many values as tables
pub length-each : {A : Type 0} (read : Members → Result A SubscriptionFault) (tables : List Members) (xs : List A) → each read tables ≡ Ok xs → length xs ≡ length tables
length-each read [] xs all = let none : [] ≡ xs = cc in ap length (sym none)
length-each read (table ∷ tables) xs all =
    length_step (read table) (each read tables) (length tables) xs all (λ ys these. length-each read tables ys these)

all_step : {A : Type 0} (P : A → Type 0) (r : Result A SubscriptionFault) (rs : Result (List A) SubscriptionFault) (xs : List A)
    → (r >>= λ y. rs >>= λ ys. Ok (y ∷ ys)) ≡ Ok xs → ((y : A) → r ≡ Ok y → P y) → ((ys : List A) → rs ≡ Ok ys → All P ys) → All P xs
all_step P (Err fault) rs xs all here more = let never : Err fault ≡ Ok xs = all in absurd (err_is_ok never)
all_step P (Ok y) (Err fault) xs all here more = let never : Err fault ≡ Ok xs = all in absurd (err_is_ok never)
all_step P (Ok y) (Ok ys) xs all here more =
    let same_list : y ∷ ys ≡ xs = (let e : Ok (y ∷ ys) ≡ Ok xs = all in cc) in
    subst (All P) same_list (All-cons P y ys (here y refl) (more ys refl))

-- what holds of each value that may be read holds of each that was
pub All-each : {A : Type 0} (P : A → Type 0) (read : Members → Result A SubscriptionFault) → ((table : Members) (x : A) → read table ≡ Ok x → P x)
    → (tables : List Members) (xs : List A) → each read tables ≡ Ok xs → All P xs
All-each P read holds [] xs all = let none : [] ≡ xs = cc in subst (All P) none (All-nil P)
All-each P read holds (table ∷ tables) xs all =
    all_step P (read table) (each read tables) xs all (holds table) (λ ys these. All-each P read holds tables ys these)

pub form_of : (form : List ℕ → Bool) (text : Option (List ℕ)) (x : List ℕ) → option_and_then (λ t. cond (form t) (Some t) None) text ≡ Some x → form x ≡ true
form_of form None x e = let never : None ≡ Some x = e in absurd (none_is_some never)
form_of form (Some text) x e =
    elim (cases_Bool (form text)) [
      | inl passed ↦ let is : Some text ≡ Some x = rw passed at e in let this : text ≡ x = cc in ap form (sym this) ∙ passed
      | inr failed ↦ let never : None ≡ Some x = rw failed at e in absurd (none_is_some never)
    ]

named_by : (value : Option Data) (x : List ℕ) → ok_at keys.Name (option_and_then line_name_in value) ≡ Ok x → is_line_name x ≡ true
named_by None x e = let never : Err (faults.Field keys.Name) ≡ Ok x = e in absurd (err_is_ok never)
named_by (Some value) x e = form_of is_line_name (as_str value) x (some_of (line_name_in value) x e)
  where
    some_of : (o : Option (List ℕ)) (x : List ℕ) → ok_at keys.Name o ≡ Ok x → o ≡ Some x
    some_of None x e = let never : Err (faults.Field keys.Name) ≡ Ok x = e in absurd (err_is_ok never)
    some_of (Some y) x e = let made : Ok y ≡ Ok x = e in cc

-- a line's name that was read is one that a line may have
pub line_name_form : (table : Members) (x : List ℕ) → required line_name_in keys.Name table ≡ Ok x → IsTrue (is_line_name x)
line_name_form table x e = named_by (get_member (key_text keys.Name) table) x e
