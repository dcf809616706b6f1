-- A field is read as its items, in at most one way.
use Rattle.std.proofs.Common.{◌≡◌, ℕ, ◌+◌, ◌-◌, ◌/◌, ◌<◌, ◌≤◌, zero, suc, cond, ltb, leb, get_or, List, [], ◌∷◌, ◌++◌, length, take, drop, Some, None, refl, sym, ap, ◌∙◌, subst, arith, inl, inr}
use Rattle.std.proofs.lemmas.Bool.{leb-true, lt-leb, le-leb, lt-ltb, le-ltb, cond-true, cond-false, cases_lt}
use Rattle.std.proofs.lemmas.List.{take_at, drop_at, take-append-drop, length-take-le, length-append, take_rest}
use Rattle.std.proofs.lemmas.Option.{cond_some, none-some, some_pair_parts}
use Rattle.std.specs.List.{AllByRecursion}
use Rattle.xp_facilities.specs.Items.{Item, IsItem, octets_of, octets_of_all, IsField}
use Rattle.xp_facilities.specs.steps.Items.{cut, cut_counted, first_item, first_items, items_of}

-- an item's octets begin with its code, and with the count of its parameters in the last class
pub octets_of-fixed : (item : Item) → item.code < 192 → octets_of item ≡ item.code ∷ item.parameters
octets_of-fixed item h = rw (lt-ltb item.code 192 h) refl

pub octets_of-counted : (item : Item) → 192 ≤ item.code → octets_of item ≡ item.code ∷ length item.parameters ∷ item.parameters
octets_of-counted item h = rw (le-ltb item.code 192 h) refl

-- what is cut is what stood there
pub cut-takes : (code count : ℕ) (octets : List ℕ) (item : Item) (rest : List ℕ) → cut code count octets ≡ Some (item, rest)
    → (item.code ≡ code) × (length item.parameters ≡ count) × (octets ≡ item.parameters ++ rest)
unfolding cut
cut-takes code count octets item rest e =
    let parts = cond_some (leb count (length octets)) _ (item, rest) e in
    let same : (record { code = code; parameters = take count octets }, drop count octets) ≡ (item, rest) = parts.1 in
    let fits : count ≤ length octets = leb-true count (length octets) parts.0 in
    let this : record { code = code; parameters = take count octets } ≡ item = ap (λ (x : Item × List ℕ). x.0) same in
    let behind : drop count octets ≡ rest = ap (λ (x : Item × List ℕ). x.1) same in (
      sym (ap (λ (x : Item). x.code) this),
      ap (λ (x : Item). length x.parameters) (sym this) ∙ length-take-le count octets fits,
      sym (take-append-drop count octets) ∙ ap (λ x. x ++ drop count octets) (ap (λ (x : Item). x.parameters) this) ∙ ap (λ x. item.parameters ++ x) behind,
    )

pub cut-again : (code : ℕ) (parameters rest : List ℕ) (count : ℕ) → length parameters ≡ count
    → cut code count (parameters ++ rest) ≡ Some (record { code = code; parameters = parameters }, rest)
unfolding cut
cut-again code parameters rest count e =
    let fits : count ≤ length (parameters ++ rest) = omega (arith, length-append parameters rest, e) in
    rw (le-leb count (length (parameters ++ rest)) fits, take_at parameters rest count e, drop_at parameters rest count e) refl

-- the item in front is an item, and stands there
pub first_item-takes : (octets : List ℕ) (item : Item) (rest : List ℕ) → first_item octets ≡ Some (item, rest)
    → IsItem item × (octets ≡ octets_of item ++ rest)
unfolding first_item cut_counted
first_item-takes [] item rest e = absurd (none-some _ e)
first_item-takes (code ∷ octets) item rest e = elim (cases_lt code 192) [
  | inl below ↦
      let found = cut-takes code (code / 64 + 1) octets item rest (sym (cond-true (ltb code 192) _ _ (lt-ltb code 192 below)) ∙ e) in (
        (λ _. found.1 ∙ ap (λ x. x / 64 + 1) (sym found.0)),
        (let same : code ∷ octets ≡ item.code ∷ item.parameters ++ rest = cc (found.0, found.2) in
            let small : item.code < 192 = subst (λ x. x < 192) (sym found.0) below in
            same ∙ ap (λ x. x ++ rest) (sym (octets_of-fixed item small))),
      )
  | inr above ↦ counted code octets item rest above (sym (cond-false (ltb code 192) _ _ (le-ltb code 192 above)) ∙ e)
]
  where
    counted : (code : ℕ) (octets : List ℕ) (item : Item) (rest : List ℕ) → 192 ≤ code → cut_counted code octets ≡ Some (item, rest)
        → IsItem item × (code ∷ octets ≡ octets_of item ++ rest)
    counted code [] item rest above e = absurd (none-some _ e)
    counted code (count ∷ octets) item rest above e =
        let found = cut-takes code count octets item rest e in
        let large : 192 ≤ item.code = subst (λ x. 192 ≤ x) (sym found.0) above in
        let same : code ∷ count ∷ octets ≡ item.code ∷ length item.parameters ∷ item.parameters ++ rest = cc (found.0, found.1, found.2) in
        ((λ below. absurd (omega (arith, below, large))), same ∙ ap (λ x. x ++ rest) (sym (octets_of-counted item large)))

-- an item that stands in front is read
pub first_item-again : (item : Item) (rest : List ℕ) → IsItem item → first_item (octets_of item ++ rest) ≡ Some (item, rest)
unfolding first_item cut_counted
first_item-again item rest is = elim (cases_lt item.code 192) [
  | inl below ↦
      ap (λ x. first_item (x ++ rest)) (octets_of-fixed item below)
      ∙ cond-true (ltb item.code 192) _ _ (lt-ltb item.code 192 below)
      ∙ cut-again item.code item.parameters rest (item.code / 64 + 1) (is below)
  | inr above ↦
      ap (λ x. first_item (x ++ rest)) (octets_of-counted item above)
      ∙ cond-false (ltb item.code 192) _ _ (le-ltb item.code 192 above)
      ∙ cut-again item.code item.parameters rest (length item.parameters) refl
]

-- an item has at least two octets
pub octets_of-long : (item : Item) → 1 ≤ length (octets_of item)
octets_of-long item = omega arith

-- items are read again from their octets
pub first_items-again : (items : List Item) (most : ℕ) → AllByRecursion IsItem items → length (octets_of_all items) ≤ most
    → first_items most (octets_of_all items) ≡ items
unfolding first_items first_item
first_items-again [] zero each fits = refl
first_items-again [] (suc most) each fits = refl
first_items-again (item ∷ items) zero each fits =
    absurd (omega (arith, octets_of-long item, length-append (octets_of item) (octets_of_all items), fits))
first_items-again (item ∷ items) (suc most) each fits =
    let shorter : length (octets_of_all items) ≤ most = omega (arith, octets_of-long item, length-append (octets_of item) (octets_of_all items), fits) in
    ap (λ x. elim x [ None ↦ [] | Some front ↦ front.0 ∷ first_items most front.1 ]) (first_item-again item (octets_of_all items) each.0)
    ∙ ap (λ x. item ∷ x) (first_items-again items most each.1 shorter)

-- the items of a field are what it is read as
pub items_of-field : (field : List ℕ) (items : List Item) → IsField field items → items_of field ≡ items
unfolding items_of
items_of-field field items is =
    subst (λ x. first_items (length x) x ≡ items) (sym is.whole)
    (first_items-again items (length (octets_of_all items)) is.each (omega arith))

-- a field is the concatenation of items in at most one way
pub IsField-unique : (field : List ℕ) (some others : List Item) → IsField field some → IsField field others → some ≡ others
IsField-unique field some others is also = sym (items_of-field field some is) ∙ items_of-field field others also

-- one more item in front
pub IsField-more : (octets : List ℕ) (item : Item) (rest : List ℕ) (items : List Item) → first_item octets ≡ Some (item, rest)
    → IsField rest items → IsField octets (item ∷ items)
IsField-more octets item rest items e is =
    let found = first_item-takes octets item rest e in
    record { each = (found.0, is.each); whole = found.1 ∙ ap (λ x. octets_of item ++ x) is.whole }

-- one item less
pub IsField-less : (octets : List ℕ) (item : Item) (rest : List ℕ) (items : List Item) → first_item octets ≡ Some (item, rest)
    → IsField octets items → (others : List Item) × (items ≡ item ∷ others) × IsField rest others
unfolding first_item
IsField-less octets item rest [] e is = absurd (none-some _ (sym (ap first_item is.whole) ∙ e))
IsField-less octets item rest (first ∷ items) e is =
    let front : Some (first, octets_of_all items) ≡ Some (item, rest) =
    sym (first_item-again first (octets_of_all items) is.each.0) ∙ sym (ap first_item is.whole) ∙ e in
    let parts = some_pair_parts first item (octets_of_all items) rest front in
    (items, ap (λ x. x ∷ items) parts.0, record { each = is.each.1; whole = sym parts.1 })

-- octets that begin with no item are no field, but none are
pub IsField-none : (octets : List ℕ) (items : List Item) → first_item octets ≡ None → IsField octets items → octets ≡ []
IsField-none octets [] e is = is.whole
IsField-none octets (item ∷ items) e is =
    absurd (none-some _ (sym e ∙ ap first_item is.whole ∙ first_item-again item (octets_of_all items) is.each.0))

-- the octets of an item that was cut
pub octets_of-cut : (octets behind : List ℕ) (code count : ℕ) → octets ≡ code ∷ cond (ltb code 192) behind (count ∷ behind) → count ≤ length behind
    → take (length octets - length (drop count behind)) octets ≡ octets_of (record { code = code; parameters = take count behind })
octets_of-cut octets behind code count e fits = elim (cases_lt code 192) [
  | inl below ↦
      let front : octets ≡ (code ∷ take count behind) ++ drop count behind =
      e ∙ ap (λ x. code ∷ x) (cond-true (ltb code 192) behind _ (lt-ltb code 192 below) ∙ sym (take-append-drop count behind)) in
      ends (code ∷ take count behind) front ∙ sym (octets_of-fixed (record { code = code; parameters = take count behind }) below)
  | inr above ↦
      let front : octets ≡ (code ∷ count ∷ take count behind) ++ drop count behind =
      e ∙ ap (λ x. code ∷ x) (cond-false (ltb code 192) behind _ (le-ltb code 192 above) ∙ ap (λ x. count ∷ x) (sym (take-append-drop count behind))) in
      ends (code ∷ count ∷ take count behind) front
      ∙ ap (λ x. code ∷ x ∷ take count behind) (sym (length-take-le count behind fits))
      ∙ sym (octets_of-counted (record { code = code; parameters = take count behind }) above)
]
  where
    ends : (front : List ℕ) → octets ≡ front ++ drop count behind → take (length octets - length (drop count behind)) octets ≡ front
    ends front same =
        subst (λ x. take (length x - length (drop count behind)) x ≡ front) (sym same)
        (take_at front (drop count behind) _ (omega (arith, length-append front (drop count behind))))

-- what is known while a field is walked through: the octets left are a field where all octets are
pub record Walk (field rest : List ℕ) : Type 0 where
  pub forth : (items : List Item) → IsField rest items → (all : List Item) × IsField field all
  pub back : (all : List Item) → IsField field all → (items : List Item) × IsField rest items

pub Walk-start : (field : List ℕ) → Walk field field
Walk-start field = record { forth = λ items is. (items, is); back = λ all is. (all, is) }

pub Walk-more : (field octets : List ℕ) (item : Item) (rest : List ℕ) → first_item octets ≡ Some (item, rest) → Walk field octets → Walk field rest
Walk-more field octets item rest e walk = record {
  forth = λ items is. walk.forth (item ∷ items) (IsField-more octets item rest items e is);
  back = λ all is. let whole = walk.back all is in let less = IsField-less octets item rest whole.0 e whole.1 in (less.0, less.2);
}

-- at the end the field is read whole
pub Walk-end : (field : List ℕ) → Walk field [] → IsField field (items_of field)
Walk-end field walk =
    let all = walk.forth [] (record { each = tt; whole = refl }) in
    subst (λ x. IsField field x) (sym (items_of-field field all.0 all.1)) all.1

pub Walk-fault : (field rest : List ℕ) → Walk field rest → first_item rest ≡ None → (rest ≡ [] → ⊥) → (all : List Item) → IsField field all → ⊥
Walk-fault field rest walk e some all is = let left = walk.back all is in some (IsField-none rest left.0 e left.1)

-- one item taken
pub items_of-more : (octets : List ℕ) (item : Item) (rest : List ℕ) → first_item octets ≡ Some (item, rest) → IsField octets (items_of octets)
    → IsField rest (items_of rest) × (items_of octets ≡ item ∷ items_of rest)
items_of-more octets item rest e is =
    let less = IsField-less octets item rest (items_of octets) e is in
    let same = items_of-field rest less.0 less.2 in
    (subst (λ x. IsField rest x) (sym same) less.2, less.1 ∙ ap (λ x. item ∷ x) (sym same))

pub items_of-none : (octets : List ℕ) → first_item octets ≡ None → IsField octets (items_of octets) → items_of octets ≡ []
items_of-none octets e is = items_of-field octets [] (record { each = tt; whole = IsField-none octets (items_of octets) e is })

-- the front of octets, by index
pub first_item-fixed : (octets : List ℕ) → 1 ≤ length octets → get_or octets 0 0 < 192
    → first_item octets ≡ cut (get_or octets 0 0) (get_or octets 0 0 / 64 + 1) (take (length octets - 1) (drop 1 octets))
unfolding first_item
first_item-fixed [] some below = absurd (omega arith)
first_item-fixed (code ∷ octets) some below =
    cond-true (ltb code 192) _ _ (lt-ltb code 192 below) ∙ ap (λ x. cut code (code / 64 + 1) x) (sym (take_rest (code ∷ octets) 1))

pub first_item-counted : (octets : List ℕ) → 2 ≤ length octets → 192 ≤ get_or octets 0 0
    → first_item octets ≡ cut (get_or octets 0 0) (get_or octets 1 0) (take (length octets - 2) (drop 2 octets))
unfolding first_item cut_counted
first_item-counted [] some above = absurd (omega arith)
first_item-counted (code ∷ []) some above = absurd (omega arith)
first_item-counted (code ∷ count ∷ octets) some above =
    cond-false (ltb code 192) _ _ (le-ltb code 192 above) ∙ ap (λ x. cut code count x) (sym (take_rest (code ∷ count ∷ octets) 2))

pub first_item-short : (octets : List ℕ) → length octets < 2 → (1 ≤ length octets → 192 ≤ get_or octets 0 0) → first_item octets ≡ None
unfolding first_item cut_counted
first_item-short [] few above = refl
first_item-short (code ∷ []) few above = cond-false (ltb code 192) _ _ (le-ltb code 192 (above (omega arith)))
first_item-short (code ∷ count ∷ octets) few above = absurd (omega arith)

-- where there is too little to cut
pub cut-short : (code count : ℕ) (octets : List ℕ) → length octets < count → cut code count octets ≡ None
unfolding cut
cut-short code count octets few = cond-false (leb count (length octets)) _ _ (lt-leb count (length octets) few)

pub cut-long : (code count : ℕ) (octets : List ℕ) → count ≤ length octets
    → cut code count octets ≡ Some (record { code = code; parameters = take count octets }, drop count octets)
unfolding cut
cut-long code count octets fits = cond-true (leb count (length octets)) _ _ (le-leb count (length octets) fits)

-- an item in front leaves fewer octets
pub first_item-shorter : (octets : List ℕ) (item : Item) (rest : List ℕ) → first_item octets ≡ Some (item, rest) → length rest < length octets
first_item-shorter octets item rest e =
    let whole : octets ≡ octets_of item ++ rest = (first_item-takes octets item rest e).1 in
    omega (arith, ap length whole, length-append (octets_of item) rest, octets_of-long item)
