-- What is known while the items of a field are looked through.
use Rattle.std.proofs.Common.{◌≡◌, ℕ, ◌+◌, ◌<◌, ◌≤◌, Bool, true, false, cond, leb, eqb, List, [], ◌∷◌, ◌++◌, length, get_or, Option, Some, None, refl, sym, ap, ◌∙◌, arith, append_assoc, Result, Ok, Err, ⊎_elim}
use Rattle.std.specs.Result.{is_err, IsOk, OnOk}
use Rattle.std.specs.Prelude.{option_map, option_and_then, ◌&&◌}
use Rattle.std.specs.List.{list_all}
use Rattle.std.proofs.lemmas.Bool.{cond-true, cond-false, lt-leb, le-leb, ne_eqb, false≢true, cases_lt}
use Rattle.std.proofs.lemmas.List.{append-nil, length-append}
use Rattle.xp_facilities.specs.Items.{Item, octets_of, octets_of_all}
use Rattle.xp_facilities.specs.Requested.{before_marker, has_code, accepted_codes, has_accepted_codes, last_of, opens, carried, dte_of}

-- lists of one and two, by index
pub one_is : (xs : List ℕ) → length xs ≡ 1 → xs ≡ get_or xs 0 0 ∷ []
one_is [] e = absurd (omega arith)
one_is (x ∷ []) e = refl
one_is (x ∷ y ∷ xs) e = absurd (omega arith)

pub two_is : (xs : List ℕ) → length xs ≡ 2 → xs ≡ get_or xs 0 0 ∷ get_or xs 1 0 ∷ []
two_is [] e = absurd (omega arith)
two_is (x ∷ []) e = absurd (omega arith)
two_is (x ∷ y ∷ []) e = refl
two_is (x ∷ y ∷ z ∷ xs) e = absurd (omega arith)

-- one item less
pub before_marker-marker : (item : Item) (items : List Item) → item.code ≡ 0 → before_marker (item ∷ items) ≡ []
before_marker-marker item items e = rw e refl

pub before_marker-other : (item : Item) (items : List Item) → eqb item.code 0 ≡ false → before_marker (item ∷ items) ≡ item ∷ before_marker items
before_marker-other item items e = cond-false (eqb item.code 0) _ _ e

-- the first of two finds
abbrev pub later : Option (List ℕ) → Option (List ℕ) → Option (List ℕ)
later None found = found
later (Some x) found = Some x

pub last_of-found : (codes : List ℕ) (item : Item) (items : List Item) (found : Option (List ℕ)) → has_code codes item ≡ true
    → later (last_of codes (item ∷ items)) found ≡ later (last_of codes items) (Some item.parameters)
unfolding last_of
last_of-found codes item items found e = go (last_of codes items)
  where
    go : (o : Option (List ℕ))
        → later (elim o [ Some later ↦ Some later | None ↦ cond (has_code codes item) (Some item.parameters) None ]) found ≡ later o (Some item.parameters)
    go None = ap (λ b. later (cond b (Some item.parameters) None) found) e
    go (Some x) = refl

pub last_of-other : (codes : List ℕ) (item : Item) (items : List Item) (found : Option (List ℕ)) → has_code codes item ≡ false
    → later (last_of codes (item ∷ items)) found ≡ later (last_of codes items) found
unfolding last_of
last_of-other codes item items found e = go (last_of codes items)
  where
    go : (o : Option (List ℕ))
        → later (elim o [ Some later ↦ Some later | None ↦ cond (has_code codes item) (Some item.parameters) None ]) found ≡ later o found
    go None = ap (λ b. later (cond b (Some item.parameters) None) found) e
    go (Some x) = refl

-- the octets kept so far, and those of the items carried from here on
abbrev pub within : List ℕ → Option (List ℕ)
within octets = cond (leb (length octets) 80) (Some octets) None

abbrev pub keeps : List ℕ → Option (List Item) → Option (List ℕ)
keeps kept more = option_and_then (λ items. within (kept ++ octets_of_all items)) more

pub keeps-start : (items : List Item) → keeps [] (carried false items) ≡ dte_of items
unfolding dte_of
keeps-start items = refl

pub keeps-end : (kept : List ℕ) (inside : Bool) → length kept ≤ 80 → keeps kept (carried inside []) ≡ Some kept
unfolding carried
keeps-end kept inside few = ap within (append-nil kept) ∙ cond-true _ _ _ (le-leb (length kept) 80 few)

pub carried-marker : (inside opened : Bool) (item : Item) (items : List Item) → item.code ≡ 0 → opens item.parameters ≡ Some opened
    → carried inside (item ∷ items) ≡ carried opened items
unfolding carried
carried-marker inside opened item items e o = rw (e, o) refl

pub carried-wrong : (inside : Bool) (item : Item) (items : List Item) → item.code ≡ 0 → opens item.parameters ≡ None
    → carried inside (item ∷ items) ≡ None
unfolding carried
carried-wrong inside item items e o = rw (e, o) refl

pub carried-outside : (item : Item) (items : List Item) → eqb item.code 0 ≡ false → carried false (item ∷ items) ≡ carried false items
unfolding carried
carried-outside item items e = cond-false (eqb item.code 0) _ _ e ∙ same (carried false items)
  where
    same : (o : Option (List Item)) → option_map (λ others. others) o ≡ o
    same None = refl
    same (Some x) = refl

pub carried-inside : (item : Item) (items : List Item) → eqb item.code 0 ≡ false
    → carried true (item ∷ items) ≡ option_map (λ others. item ∷ others) (carried true items)
unfolding carried
carried-inside item items e = cond-false (eqb item.code 0) _ _ e

pub keeps-more : (kept : List ℕ) (item : Item) (more : Option (List Item))
    → keeps kept (option_map (λ others. item ∷ others) more) ≡ keeps (kept ++ octets_of item) more
keeps-more kept item None = refl
keeps-more kept item (Some others) = ap within (sym (append_assoc kept (octets_of item) (octets_of_all others)))

pub keeps-full : (kept : List ℕ) (item : Item) (more : Option (List Item)) → 80 < length kept + length (octets_of item)
    → keeps kept (option_map (λ others. item ∷ others) more) ≡ None
keeps-full kept item None full = refl
keeps-full kept item (Some others) full =
    let all = kept ++ (octets_of item ++ octets_of_all others) in
    let over : 80 < length (kept ++ (octets_of item ++ octets_of_all others)) =
    omega (arith, length-append kept (octets_of item ++ octets_of_all others), length-append (octets_of item) (octets_of_all others), full) in
    cond-false (leb (length all) 80) (Some all) None (lt-leb (length all) 80 over)

-- the codes before the first marker
pub accepted-marker : (item : Item) (items : List Item) → item.code ≡ 0 → has_accepted_codes (item ∷ items) ≡ true
unfolding has_accepted_codes
accepted-marker item items e = ap (list_all (has_code accepted_codes)) (before_marker-marker item items e)

pub accepted-other : (item : Item) (items : List Item) → eqb item.code 0 ≡ false → has_code accepted_codes item ≡ true
    → has_accepted_codes (item ∷ items) ≡ has_accepted_codes items
unfolding has_accepted_codes
accepted-other item items e h =
    ap (list_all (has_code accepted_codes)) (before_marker-other item items e) ∙ ap (λ b. b && list_all (has_code accepted_codes) (before_marker items)) h

pub accepted-wrong : (item : Item) (items : List Item) → eqb item.code 0 ≡ false → has_code accepted_codes item ≡ false
    → has_accepted_codes (item ∷ items) ≡ false
unfolding has_accepted_codes
accepted-wrong item items e h =
    ap (list_all (has_code accepted_codes)) (before_marker-other item items e) ∙ ap (λ b. b && list_all (has_code accepted_codes) (before_marker items)) h

pub accepted-none : has_accepted_codes [] ≡ true
unfolding has_accepted_codes
accepted-none = refl

-- a look for the last item of some codes
pub last-found : (codes : List ℕ) (items left new : List Item) (item : Item) (found : Option (List ℕ)) → left ≡ item ∷ new → (item.code ≡ 0 → ⊥)
    → has_code codes item ≡ true → later (last_of codes (before_marker left)) found ≡ last_of codes (before_marker items)
    → later (last_of codes (before_marker new)) (Some item.parameters) ≡ last_of codes (before_marker items)
last-found codes items left new item found e ne has same =
    sym (last_of-found codes item (before_marker new) found has)
    ∙ ap (λ x. later (last_of codes x) found) (sym (ap before_marker e ∙ before_marker-other item new (ne_eqb item.code 0 ne)))
    ∙ same

pub last-other : (codes : List ℕ) (items left new : List Item) (item : Item) (found : Option (List ℕ)) → left ≡ item ∷ new → (item.code ≡ 0 → ⊥)
    → has_code codes item ≡ false → later (last_of codes (before_marker left)) found ≡ last_of codes (before_marker items)
    → later (last_of codes (before_marker new)) found ≡ last_of codes (before_marker items)
last-other codes items left new item found e ne has same =
    sym (last_of-other codes item (before_marker new) found has)
    ∙ ap (λ x. later (last_of codes x) found) (sym (ap before_marker e ∙ before_marker-other item new (ne_eqb item.code 0 ne)))
    ∙ same

pub last-none : (codes : List ℕ) (items left : List Item) (found : Option (List ℕ)) → before_marker left ≡ []
    → later (last_of codes (before_marker left)) found ≡ last_of codes (before_marker items) → found ≡ last_of codes (before_marker items)
unfolding last_of
last-none codes items left found e same = ap (λ x. later (last_of codes x) found) (sym e) ∙ same

-- a look for the facilities between DTEs
pub dte-marker : (items left new : List Item) (item : Item) (kept : List ℕ) (inside opened : Bool) → left ≡ item ∷ new → item.code ≡ 0
    → opens item.parameters ≡ Some opened → keeps kept (carried inside left) ≡ dte_of items → keeps kept (carried opened new) ≡ dte_of items
dte-marker items left new item kept inside opened e code o same =
    ap (keeps kept) (sym (ap (carried inside) e ∙ carried-marker inside opened item new code o)) ∙ same

pub dte-wrong : (items left new : List Item) (item : Item) (kept : List ℕ) (inside : Bool) → left ≡ item ∷ new → item.code ≡ 0
    → opens item.parameters ≡ None → keeps kept (carried inside left) ≡ dte_of items → dte_of items ≡ None
dte-wrong items left new item kept inside e code o same =
    sym same ∙ ap (keeps kept) (ap (carried inside) e ∙ carried-wrong inside item new code o)

pub dte-inside : (items left new : List Item) (item : Item) (kept : List ℕ) (inside : Bool) → left ≡ item ∷ new → (item.code ≡ 0 → ⊥) → inside ≡ true
    → keeps kept (carried inside left) ≡ dte_of items → keeps (kept ++ octets_of item) (carried inside new) ≡ dte_of items
dte-inside items left new item kept true e ne i same =
    sym (keeps-more kept item (carried true new))
    ∙ ap (keeps kept) (sym (ap (carried true) e ∙ carried-inside item new (ne_eqb item.code 0 ne)))
    ∙ same
dte-inside items left new item kept false e ne i same = absurd (false≢true i)

pub dte-full : (items left new : List Item) (item : Item) (kept : List ℕ) (inside : Bool) → left ≡ item ∷ new → (item.code ≡ 0 → ⊥) → inside ≡ true
    → 80 < length kept + length (octets_of item) → keeps kept (carried inside left) ≡ dte_of items → dte_of items ≡ None
dte-full items left new item kept true e ne i full same =
    sym same
    ∙ ap (keeps kept) (ap (carried true) e ∙ carried-inside item new (ne_eqb item.code 0 ne))
    ∙ keeps-full kept item (carried true new) full
dte-full items left new item kept false e ne i full same = absurd (false≢true i)

pub dte-outside : (items left new : List Item) (item : Item) (kept : List ℕ) (inside : Bool) → left ≡ item ∷ new → (item.code ≡ 0 → ⊥) → inside ≡ false
    → keeps kept (carried inside left) ≡ dte_of items → keeps kept (carried inside new) ≡ dte_of items
dte-outside items left new item kept false e ne i same =
    ap (keeps kept) (sym (ap (carried false) e ∙ carried-outside item new (ne_eqb item.code 0 ne))) ∙ same
dte-outside items left new item kept true e ne i same = absurd (false≢true (sym i))

pub dte-end : (items left : List Item) (kept : List ℕ) (inside : Bool) → left ≡ [] → length kept ≤ 80
    → keeps kept (carried inside left) ≡ dte_of items → dte_of items ≡ Some kept
dte-end items left kept inside e few same =
    sym same ∙ ap (λ x. keeps kept (carried inside x)) e ∙ keeps-end kept inside few

-- what a `Result` is by its tests
pub on_ok : {T E P : Type 0} (r : Result T E) → is_err r ≡ false → OnOk r P → P
on_ok (Ok x) e p = p
on_ok (Err x) e p = absurd (false≢true (sym e))

pub ok_from : {T E : Type 0} (r : Result T E) → is_err r ≡ false → IsOk r
ok_from (Ok x) e = refl
ok_from (Err x) e = absurd (false≢true (sym e))

pub over_from : {T E : Type 0} (r : Result T E) (all most : ℕ) → is_err r ≡ true → (all ≤ most → IsOk r) → most < all
over_from (Ok x) all most e fits = absurd (false≢true e)
over_from (Err x) all most e fits = ⊎_elim (λ h. h) (λ h. absurd (false≢true (fits h))) (cases_lt most all)
