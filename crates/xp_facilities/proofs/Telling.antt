-- What is written, octet by octet.
use Rattle.std.proofs.Common.{◌≡◌, ℕ, ◌+◌, ◌-◌, ◌*◌, ◌<◌, ◌≤◌, true, List, [], ◌∷◌, ◌++◌, length, get_or, take, drop, Option, false, refl, sym, ap, ◌∙◌, subst, arith}
use Rattle.std.specs.List.{flat_map, list_any}
use Rattle.std.proofs.lemmas.Bool.{false≢true}
use Rattle.std.proofs.lemmas.List.{append-nil, take_rest}
use Rattle.std.proofs.lemmas.List.Concat.{flat_map-append}
use Rattle.xp_packets.specs.Digits.{AreDigits}
use Rattle.xp_facilities.specs.Items.{Item, IsField, octets_of, octets_of_all}
use Rattle.xp_facilities.specs.Requested.{is_marker}
use Rattle.xp_packets.specs.Writing.{packed}
use Rattle.xp_facilities.specs.Indicated.{optional_item, marked, indicated_items, is_in_range, IsCarried, Indicates}
use Rattle.xp_facilities.specs.steps.Indicated.{marked_octets}
use Rattle.xp_facilities.specs.declared.indicated.IndicatedFacilities.{IndicatedFacilities}
use Rattle.xp_facilities.proofs.Reading.{IsField-unique}

abbrev pub rows : List (ℕ × Option (List ℕ)) → List Item
rows entries = flat_map (λ entry. optional_item entry.0 entry.1) entries

-- one more item behind those written
pub rows-more : (entries : List (ℕ × Option (List ℕ))) (code : ℕ) (given parameters : Option (List ℕ)) (old new : List ℕ) → given ≡ parameters
    → old ≡ octets_of_all (rows entries) → new ≡ old ++ octets_of_all (optional_item code given)
    → new ≡ octets_of_all (rows (entries ++ (code, parameters) ∷ []))
rows-more entries code given parameters old new same before more =
    more
    ∙ ap (λ x. x ++ octets_of_all (optional_item code given)) before
    ∙ ap (λ x. octets_of_all (rows entries) ++ octets_of_all (optional_item code x)) same
    ∙ sym (flat_map-append octets_of (rows entries) (optional_item code parameters))
    ∙ ap octets_of_all
    (ap (λ x. rows entries ++ x) (sym (append-nil (optional_item code parameters)))
    ∙ sym (flat_map-append (λ (entry : ℕ × Option (List ℕ)). optional_item entry.0 entry.1) entries ((code, parameters) ∷ [])))

-- the facilities between DTEs behind their marker
pub marked_octets-is : (dte : List ℕ) (carried : List Item) → IsField dte carried → marked_octets dte ≡ octets_of_all (marked carried)
unfolding marked_octets marked
marked_octets-is dte [] is = ap marked_octets is.whole
marked_octets-is dte (item ∷ items) is = ap marked_octets is.whole

-- facilities between DTEs without a marker are those items
pub IsCarried-marked : (dte : List ℕ) (items : List Item) → IsField dte items → list_any is_marker items ≡ true → (carried : List Item) → IsCarried dte carried → ⊥
IsCarried-marked dte items is marks carried also =
    false≢true (sym also.unmarked ∙ ap (list_any is_marker) (IsField-unique dte carried items also.whole is) ∙ marks)

-- digits, two at a time
pub packed-two : (rest : List ℕ) → 2 ≤ length rest
    → packed rest ≡ (16 * get_or rest 0 0 + get_or rest 1 0) ∷ packed (take (length rest - 2) (drop 2 rest))
packed-two [] some = absurd (omega arith)
packed-two (x ∷ []) some = absurd (omega arith)
packed-two (x ∷ y ∷ rest) some = ap (λ z. (16 * x + y) ∷ packed z) (sym (take_rest (x ∷ y ∷ rest) 2))

pub packed-one : (rest : List ℕ) → length rest ≡ 1 → packed rest ≡ (16 * get_or rest 0 0) ∷ []
packed-one [] some = absurd (omega arith)
packed-one (x ∷ []) some = refl
packed-one (x ∷ y ∷ rest) some = absurd (omega arith)

pub packed-none : (rest : List ℕ) → length rest < 1 → packed rest ≡ []
packed-none [] none = refl
packed-none (x ∷ rest) none = absurd (omega arith)

pub AreDigits-two : (rest : List ℕ) → 2 ≤ length rest → AreDigits rest → AreDigits (take (length rest - 2) (drop 2 rest))
AreDigits-two [] some are = absurd (omega arith)
AreDigits-two (x ∷ []) some are = absurd (omega arith)
AreDigits-two (x ∷ y ∷ rest) some are = subst AreDigits (sym (take_rest (x ∷ y ∷ rest) 2)) are.1.1

pub length-two : (rest : List ℕ) → 2 ≤ length rest → length (take (length rest - 2) (drop 2 rest)) + 2 ≡ length rest
length-two [] some = absurd (omega arith)
length-two (x ∷ []) some = absurd (omega arith)
length-two (x ∷ y ∷ rest) some = ap (λ z. length z + 2) (take_rest (x ∷ y ∷ rest) 2) ∙ omega arith

pub tells-octets : (entries : List (ℕ × Option (List ℕ))) (dte : List ℕ) (carried : List Item) → IsField dte carried
    → octets_of_all (rows entries) ++ marked_octets dte ≡ octets_of_all (rows entries ++ marked carried)
tells-octets entries dte carried is =
    ap (λ x. octets_of_all (rows entries) ++ x) (marked_octets-is dte carried is) ∙ sym (flat_map-append octets_of (rows entries) (marked carried))

-- there is a field that tells values in their ranges
pub some_field : (A : Type 0) (told : IndicatedFacilities A) (carried : List Item) → IsField told.dte carried → list_any is_marker carried ≡ false → is_in_range told ≡ true
    → (field : List ℕ) × Indicates told field
some_field A told carried is unmarked within =
    (octets_of_all (indicated_items told carried), record { carried = carried; dte = record { whole = is; unmarked = unmarked }; in_range = within; whole = refl })
