-- The items of a told field are items, in ascending order of their codes, and few.
use Rattle.std.proofs.Common.{◌≡◌, ℕ, ◌+◌, ◌*◌, ◌/◌, ◌<◌, ◌≤◌, Bool, true, false, cond, ltb, List, [], ◌∷◌, ◌++◌, length, map, drop, Option, Some, None, refl, ap, ◌∙◌, subst, arith}
use Rattle.std.specs.Prelude.{IfSome, is_some}
use Rattle.std.specs.List.{AllByRecursion}
use Rattle.std.proofs.lemmas.Bool.{and_parts, leb-true}
use Rattle.std.proofs.lemmas.List.{length-append, append-nil}
use Rattle.std.proofs.lemmas.List.Concat.{flat_map-append}
use Rattle.xp_facilities.specs.Items.{Item, IsItem, octets_of, octets_of_all}
use Rattle.xp_packets.specs.Writing.{packed}
use Rattle.xp_facilities.specs.Indicated.{options, closed_index, open_index, two_digits, four_digits, eight_digits, two_digit_index, four_digit_index, duration_octets, throughput, modified, pair, duration, counts, redirection, optional_item, table, marked, is_in_range, Indicates, IsIndicatedField, IsOfExchange, AscendFrom, most_octets}
use Rattle.xp_facilities.specs.steps.Indicated.{marked_octets}
use Rattle.xp_facilities.specs.Indicated as indicated
use Rattle.xp_facilities.specs.declared.fast_select.FastSelect.{FastSelect}
use Rattle.xp_facilities.specs.declared.fast_select.FastSelect.TheVariants.{No, Unrestricted, Restricted}
use Rattle.xp_facilities.specs.declared.direction_sizes.DirectionSizes.{DirectionSizes}
use Rattle.xp_facilities.specs.declared.redirection.Reason.{Reason}
use Rattle.xp_facilities.specs.declared.redirection.RedirectionNotification.{RedirectionNotification}
use Rattle.xp_facilities.specs.declared.segment_counts.SegmentCounts.{SegmentCounts}
use Rattle.xp_facilities.specs.declared.selection.Selection.{Selection}
use Rattle.xp_facilities.specs.declared.selection.Selection.TheVariants.{Nothing, Closed, WithOutsideAccess}
use Rattle.xp_facilities.specs.declared.indicated.IndicatedFacilities.{IndicatedFacilities}
use Rattle.xp_facilities.proofs.Telling.{rows, marked_octets-is}

pub all-append : {X : Type 0} (P : X → Type 0) (xs ys : List X) → AllByRecursion P xs → AllByRecursion P ys → AllByRecursion P (xs ++ ys)
all-append P [] ys p q = q
all-append P (x ∷ xs) ys p q = (p.0, all-append P xs ys p.1 q)

-- how many parameters a code has
abbrev pub Suits : ℕ → Option (List ℕ) → Type 0
Suits code parameters = IfSome parameters (λ p. code < 192 → length p ≡ code / 64 + 1)

pub optional_item-items : (code : ℕ) (parameters : Option (List ℕ)) → Suits code parameters → AllByRecursion IsItem (optional_item code parameters)
unfolding optional_item
optional_item-items code None suits = tt
optional_item-items code (Some parameters) suits = (suits, tt)

pub rows-items : (entries : List (ℕ × Option (List ℕ))) → AllByRecursion (λ entry. Suits entry.0 entry.1) entries → AllByRecursion IsItem (rows entries)
rows-items [] suit = tt
rows-items (entry ∷ entries) suit = all-append IsItem (optional_item entry.0 entry.1) (rows entries) (optional_item-items entry.0 entry.1 suit.0) (rows-items entries suit.1)

pub options-suit : (fast : FastSelect) (reverse : Bool) → Suits 0x01 (options fast reverse)
unfolding options
options-suit No false = tt
options-suit No true = λ _. refl
options-suit Unrestricted reverse = λ _. refl
options-suit Restricted reverse = λ _. refl

pub throughput-suits : (class : Option ℕ) → Suits 0x02 (throughput class)
unfolding throughput
throughput-suits None = tt
throughput-suits (Some class) = λ _. refl

pub modified-suits : (reason : Option Reason) → Suits 0x08 (modified reason)
unfolding modified
modified-suits None = tt
modified-suits (Some reason) = λ _. refl

pub pair-suits : (code : ℕ) (sizes : Option DirectionSizes) → code / 64 ≡ 1 → Suits code (pair sizes)
unfolding pair
pair-suits code None e = tt
pair-suits code (Some sizes) e = λ _. omega (arith, e)

pub short-suits : (code : ℕ) (index : Option ℕ) → code / 64 ≡ 0 → Suits code (two_digit_index index)
unfolding two_digit_index two_digits
short-suits code None e = tt
short-suits code (Some index) e = by_test (ltb index 100)
  where
    by_test : (b : Bool) → Suits code (cond b (Some (two_digits index)) None)
    by_test true = λ _. omega (arith, e)
    by_test false = tt

pub long-suits : (code : ℕ) (index : Option ℕ) → code / 64 ≡ 1 → Suits code (four_digit_index index)
unfolding four_digit_index four_digits
long-suits code None e = tt
long-suits code (Some index) e = by_test (ltb index 100)
  where
    by_test : (b : Bool) → Suits code (cond b None (Some (four_digits index)))
    by_test true = tt
    by_test false = λ _. omega (arith, e)

pub counted-suits : (code : ℕ) (parameters : Option (List ℕ)) → 192 ≤ code → Suits code parameters
counted-suits code None large = tt
counted-suits code (Some parameters) large = λ small. absurd (omega (arith, small, large))

pub table-suits : {A : Type 0} (told : IndicatedFacilities A) → AllByRecursion (λ entry. Suits entry.0 entry.1) (table told)
table-suits told = (
  options-suit told.fast told.reverse,
  (
    throughput-suits told.throughput,
    (
      short-suits 0x03 (closed_index told.selection) refl,
      (
        modified-suits told.modified,
        (
          short-suits 0x09 (open_index told.selection) refl,
          (
            pair-suits 0x42 told.packet refl,
            (
              pair-suits 0x43 told.window refl,
              (
                long-suits 0x47 (closed_index told.selection) refl,
                (
                  long-suits 0x48 (open_index told.selection) refl,
                  (
                    counted-suits 0xc1 (duration told.duration) (omega arith),
                    (
                      counted-suits 0xc2 (counts told.segments) (omega arith),
                      (
                        counted-suits 0xc3 (redirection told.redirected) (omega arith),
                        tt,
                      ),
                    ),
                  ),
                ),
              ),
            ),
          ),
        ),
      ),
    ),
  ),
)

pub marked-items : (carried : List Item) → AllByRecursion IsItem carried → AllByRecursion IsItem (marked carried)
unfolding marked
marked-items [] each = tt
marked-items (item ∷ items) each = ((λ _. refl), each)

-- the order of the codes
pub AscendFrom-lower : (lowest higher : ℕ) (codes : List ℕ) → lowest ≤ higher → AscendFrom higher codes → AscendFrom lowest codes
AscendFrom-lower lowest higher [] h up = tt
AscendFrom-lower lowest higher (code ∷ codes) h up = (omega (arith, h, up.0), up.1)

pub rows-order : (entries : List (ℕ × Option (List ℕ))) (lowest : ℕ) → AscendFrom lowest (map (λ (entry : ℕ × Option (List ℕ)). entry.0) entries)
    → AscendFrom lowest (map (λ (item : Item). item.code) (rows entries))
unfolding optional_item
rows-order [] lowest up = tt
rows-order (entry ∷ entries) lowest up =
    by_parameters entry.0 entry.1 (rows entries) lowest up.0 (rows-order entries (entry.0 + 1) up.1)
  where
    by_parameters : (code : ℕ) (parameters : Option (List ℕ)) (items : List Item) (lowest : ℕ) → lowest ≤ code
        → AscendFrom (code + 1) (map (λ (item : Item). item.code) items) → AscendFrom lowest (map (λ (item : Item). item.code) (optional_item code parameters ++ items))
    by_parameters code None items lowest h up = AscendFrom-lower lowest (code + 1) _ (omega (arith, h)) up
    by_parameters code (Some parameters) items lowest h up = (h, up)

-- how many octets an item has at most
abbrev pub row_length : ℕ → Option (List ℕ) → ℕ
row_length code parameters = length (octets_of_all (optional_item code parameters))

pub options-length : (fast : FastSelect) (reverse : Bool) → row_length 0x01 (options fast reverse) ≤ 2
unfolding options optional_item
options-length No false = omega arith
options-length No true = omega arith
options-length Unrestricted reverse = omega arith
options-length Restricted reverse = omega arith

pub throughput-length : (class : Option ℕ) → row_length 0x02 (throughput class) ≤ 2
unfolding throughput optional_item
throughput-length None = omega arith
throughput-length (Some class) = omega arith

pub modified-length : (reason : Option Reason) → row_length 0x08 (modified reason) ≤ cond (is_some reason) 2 0
unfolding modified optional_item
modified-length None = omega arith
modified-length (Some reason) = omega arith

pub packet-length : (sizes : Option DirectionSizes) → row_length 0x42 (pair sizes) ≤ cond (is_some sizes) 3 0
unfolding pair optional_item
packet-length None = omega arith
packet-length (Some sizes) = omega arith

pub window-length : (sizes : Option DirectionSizes) → row_length 0x43 (pair sizes) ≤ cond (is_some sizes) 3 0
unfolding pair optional_item
window-length None = omega arith
window-length (Some sizes) = omega arith

pub duration-length : (seconds : Option ℕ) → row_length 0xc1 (duration seconds) ≤ cond (is_some seconds) 6 0
unfolding duration duration_octets optional_item
duration-length None = omega arith
duration-length (Some seconds) = omega arith

pub counts-length : (segments : Option SegmentCounts) → row_length 0xc2 (counts segments) ≤ cond (is_some segments) 10 0
unfolding counts eight_digits optional_item
counts-length None = omega arith
counts-length (Some segments) = omega arith

pub packed-length : (digits : List ℕ) → 2 * length (packed digits) ≤ length digits + 1
packed-length [] = omega arith
packed-length (high ∷ []) = omega arith
packed-length (high ∷ low ∷ digits) = omega (arith, packed-length digits)

pub redirection-length : (redirected : Option RedirectionNotification) → IfSome redirected (λ r. length r.dialled ≤ 15)
    → row_length 0xc3 (redirection redirected) ≤ cond (is_some redirected) 12 0
unfolding redirection optional_item
redirection-length None few = omega arith
redirection-length (Some r) few = omega (arith, packed-length r.dialled, few, ap length (append-nil (packed r.dialled)))

-- only one of the four rows has the selection
pub selection-length : (selection : Selection)
    → row_length 0x03 (two_digit_index (closed_index selection)) + row_length 0x09 (two_digit_index (open_index selection))
    + row_length 0x47 (four_digit_index (closed_index selection)) + row_length 0x48 (four_digit_index (open_index selection)) ≤ 3
unfolding two_digit_index four_digit_index two_digits four_digits closed_index open_index optional_item
selection-length Nothing = omega arith
selection-length (Closed index) = by_test (ltb index 100)
  where
    by_test : (b : Bool)
        → row_length 0x03 (cond b (Some (two_digits index)) None) + 0 + row_length 0x47 (cond b None (Some (four_digits index))) + 0 ≤ 3
    by_test true = omega arith
    by_test false = omega arith
selection-length (WithOutsideAccess index) = by_test (ltb index 100)
  where
    by_test : (b : Bool)
        → 0 + row_length 0x09 (cond b (Some (two_digits index)) None) + 0 + row_length 0x48 (cond b None (Some (four_digits index))) ≤ 3
    by_test true = omega arith
    by_test false = omega arith

pub rows-length : (entry : ℕ × Option (List ℕ)) (entries : List (ℕ × Option (List ℕ)))
    → length (octets_of_all (rows (entry ∷ entries))) ≡ row_length entry.0 entry.1 + length (octets_of_all (rows entries))
rows-length entry entries =
    ap length (flat_map-append octets_of (optional_item entry.0 entry.1) (rows entries)) ∙ length-append (octets_of_all (optional_item entry.0 entry.1)) (octets_of_all (rows entries))

pub table-length : {A : Type 0} (told : IndicatedFacilities A) → IfSome told.redirected (λ r. length r.dialled ≤ 15)
    → length (octets_of_all (rows (table told))) + 82 ≤ most_octets told
table-length told few =
    let t = table told in
    let e0 = rows-length (0x01, options told.fast told.reverse) (drop 1 t) in
    let e1 = rows-length (0x02, throughput told.throughput) (drop 2 t) in
    let e2 = rows-length (0x03, two_digit_index (closed_index told.selection)) (drop 3 t) in
    let e3 = rows-length (0x08, modified told.modified) (drop 4 t) in
    let e4 = rows-length (0x09, two_digit_index (open_index told.selection)) (drop 5 t) in
    let e5 = rows-length (0x42, pair told.packet) (drop 6 t) in
    let e6 = rows-length (0x43, pair told.window) (drop 7 t) in
    let e7 = rows-length (0x47, four_digit_index (closed_index told.selection)) (drop 8 t) in
    let e8 = rows-length (0x48, four_digit_index (open_index told.selection)) (drop 9 t) in
    let e9 = rows-length (0xc1, duration told.duration) (drop 10 t) in
    let e10 = rows-length (0xc2, counts told.segments) (drop 11 t) in
    let e11 = rows-length (0xc3, redirection told.redirected) (drop 12 t) in
    sums _ _ _ _ _ _ _ _ _ _ _ _ _ _ _ _ _ _
    (options-length told.fast told.reverse) (throughput-length told.throughput) (selection-length told.selection) (modified-length told.modified)
    (packet-length told.packet) (window-length told.window) (duration-length told.duration) (counts-length told.segments) (redirection-length told.redirected few)
    (e0 ∙ ap (λ x. row_length 0x01 (options told.fast told.reverse) + x) (e1 ∙ ap (λ x. row_length 0x02 (throughput told.throughput) + x)
    (e2 ∙ ap (λ x. row_length 0x03 (two_digit_index (closed_index told.selection)) + x) (e3 ∙ ap (λ x. row_length 0x08 (modified told.modified) + x)
    (e4 ∙ ap (λ x. row_length 0x09 (two_digit_index (open_index told.selection)) + x) (e5 ∙ ap (λ x. row_length 0x42 (pair told.packet) + x)
    (e6 ∙ ap (λ x. row_length 0x43 (pair told.window) + x) (e7 ∙ ap (λ x. row_length 0x47 (four_digit_index (closed_index told.selection)) + x)
    (e8 ∙ ap (λ x. row_length 0x48 (four_digit_index (open_index told.selection)) + x) (e9 ∙ ap (λ x. row_length 0xc1 (duration told.duration) + x)
    (e10 ∙ ap (λ x. row_length 0xc2 (counts told.segments) + x) e11)))))))))))
  where
    sums : (a b c d e f g h i j k l m p w t s r : ℕ) {all : ℕ} → a ≤ 2 → b ≤ 2 → c + e + h + i ≤ 3 → d ≤ m → f ≤ p → g ≤ w → j ≤ t → k ≤ s → l ≤ r
        → all ≡ a + (b + (c + (d + (e + (f + (g + (h + (i + (j + (k + (l + 0))))))))))) → all + 82 ≤ 89 + m + p + w + t + s + r
    sums a b c d e f g h i j k l m p w t s r pa pb pc pd pf pg pj pk pl same = omega arith

pub marked-length : (dte : List ℕ) → length dte ≤ 80 → length (marked_octets dte) ≤ 82
unfolding marked_octets
marked-length [] few = omega arith
marked-length (octet ∷ octets) few = omega (arith, few)

pub dte-few : {A : Type 0} (told : IndicatedFacilities A) → is_in_range told ≡ true → length told.dte ≤ 80
unfolding is_in_range
dte-few told e = leb-true (length told.dte) 80 (and_parts _ _ e).1

pub told-length : {A : Type 0} (told : IndicatedFacilities A) (field : List ℕ) → Indicates told field → IfSome told.redirected (λ r. length r.dialled ≤ 15)
    → length field ≤ most_octets told
told-length told field tells few =
    let whole : field ≡ octets_of_all (rows (table told)) ++ octets_of_all (marked tells.carried) =
    tells.whole ∙ flat_map-append octets_of (rows (table told)) (marked tells.carried) in
    let behind : length (octets_of_all (marked tells.carried)) ≤ 82 =
    subst (λ x. length x ≤ 82) (marked_octets-is told.dte tells.carried tells.dte.whole) (marked-length told.dte (dte-few told tells.in_range)) in
    add _ _ _ _
    (ap length whole ∙ length-append (octets_of_all (rows (table told))) (octets_of_all (marked tells.carried)))
    behind (table-length told few)
  where
    add : (a b c most : ℕ) → a ≡ b + c → c ≤ 82 → b + 82 ≤ most → a ≤ most
    add a b c most same few fits = omega arith

-- the bound, by which facilities are there
abbrev most_with : Bool → Bool → Bool → Bool → Bool → Bool → ℕ
most_with m p w t s r = 89 + cond m 2 0 + cond p 3 0 + cond w 3 0 + cond t 6 0 + cond s 10 0 + cond r 12 0

at_most_most : (most : ℕ) (b : Bool) → cond b most 0 ≤ most
at_most_most most true = omega arith
at_most_most most false = omega arith

pub told-exchange : {A : Type 0} (told : IndicatedFacilities A) (count : ℕ) → count ≤ most_octets told → IsOfExchange told → count ≤ 107
told-exchange told count most (indicated.incoming modified duration segments) =
    sum count (cond (is_some told.packet) 3 0) (cond (is_some told.window) 3 0) (cond (is_some told.redirected) 12 0)
    (at_most_most 3 (is_some told.packet)) (at_most_most 3 (is_some told.window)) (at_most_most 12 (is_some told.redirected))
    (subst (λ x. count ≤ most_with (is_some x) (is_some told.packet) (is_some told.window) false false (is_some told.redirected)) modified
    (subst (λ x. count ≤ most_with (is_some told.modified) (is_some told.packet) (is_some told.window) (is_some x) false (is_some told.redirected)) duration
    (subst (λ x. count ≤ most_with (is_some told.modified) (is_some told.packet) (is_some told.window) (is_some told.duration) (is_some x) (is_some told.redirected)) segments most)))
  where
    sum : (count p w r : ℕ) → p ≤ 3 → w ≤ 3 → r ≤ 12 → count ≤ 89 + 0 + p + w + 0 + 0 + r → count ≤ 107
    sum count p w r hp hw hr h = omega (arith, hp, hw, hr, h)
told-exchange told count most (indicated.connected redirected duration) =
    sum count (cond (is_some told.modified) 2 0) (cond (is_some told.packet) 3 0) (cond (is_some told.window) 3 0) (cond (is_some told.segments) 10 0)
    (at_most_most 2 (is_some told.modified)) (at_most_most 3 (is_some told.packet)) (at_most_most 3 (is_some told.window)) (at_most_most 10 (is_some told.segments))
    (subst (λ x. count ≤ most_with (is_some told.modified) (is_some told.packet) (is_some told.window) (is_some x) (is_some told.segments) false) duration
    (subst (λ x. count ≤ most_with (is_some told.modified) (is_some told.packet) (is_some told.window) (is_some told.duration) (is_some told.segments) (is_some x)) redirected most))
  where
    sum : (count m p w s : ℕ) → m ≤ 2 → p ≤ 3 → w ≤ 3 → s ≤ 10 → count ≤ 89 + m + p + w + 0 + s + 0 → count ≤ 107
    sum count m p w s hm hp hw hs h = omega (arith, hm, hp, hw, hs, h)
told-exchange told count most (indicated.cleared redirected packet window) =
    sum count (cond (is_some told.modified) 2 0) (cond (is_some told.duration) 6 0) (cond (is_some told.segments) 10 0)
    (at_most_most 2 (is_some told.modified)) (at_most_most 6 (is_some told.duration)) (at_most_most 10 (is_some told.segments))
    (subst (λ x. count ≤ most_with (is_some told.modified) (is_some x) false (is_some told.duration) (is_some told.segments) false) packet
    (subst (λ x. count ≤ most_with (is_some told.modified) (is_some told.packet) (is_some x) (is_some told.duration) (is_some told.segments) false) window
    (subst (λ x. count ≤ most_with (is_some told.modified) (is_some told.packet) (is_some told.window) (is_some told.duration) (is_some told.segments) (is_some x)) redirected most)))
  where
    sum : (count m t s : ℕ) → m ≤ 2 → t ≤ 6 → s ≤ 10 → count ≤ 89 + m + 0 + 0 + t + s + 0 → count ≤ 107
    sum count m t s hm ht hs h = omega (arith, hm, ht, hs, h)

pub told_field : {A : Type 0} (told : IndicatedFacilities A) (field : List ℕ) (tells : Indicates told field) → IsIndicatedField told field tells
told_field told field tells = record {
  items = record {
    each = all-append IsItem (rows (table told)) (marked tells.carried) (rows-items (table told) (table-suits told))
        (marked-items tells.carried tells.dte.whole.each);
    whole = tells.whole;
  };
  order = rows-order (table told) 0x01 (
    omega arith,
    (
      omega arith,
      (
        omega arith,
        (
          omega arith,
          (
            omega arith,
            (
              omega arith,
              (
                omega arith,
                (
                  omega arith,
                  (omega arith, (omega arith, (omega arith, (omega arith, tt)))),
                ),
              ),
            ),
          ),
        ),
      ),
    ),
  );
  most = told-length told field tells;
}
