-- Half-octets: which stands where, that packing and taking apart undo each other, and which are digits.
use Rattle.std.proofs.Common.{◌≡◌, ℕ, zero, suc, ◌+◌, ◌*◌, ◌/◌, ◌%◌, ◌<◌, ◌≤◌, Bool, true, false, cond, eqb, ltb, List, [], ◌∷◌, ◌++◌, length, get_or, take, drop, refl, sym, ap, ◌∙◌, append_assoc, arith, inl, inr, Ok}
use Rattle.std.specs.List.{list_all}
use Rattle.std.proofs.lemmas.Bool.{eqb-true, eqb-false, cases_Bool, and_parts, and_from, lt-ltb, ltb-true, le-ltb}
use Rattle.std.proofs.lemmas.List.{take_more, drop_more, drop_all, get_or-drop, get_or-take, drop-drop, length-take, length-drop}
use Rattle.std.proofs.lemmas.List.Folds.{list_all_at, list_all_more}
use Rattle.xp_packets.specs.Digits.{AreDigits, half_octets, filling, octets_for}
use Rattle.xp_packets.specs.Writing.{packed}
use Rattle.xp_packets.specs.steps.Reading.{digits_at}

pub cond_same : (b : Bool) (x : ℕ) → x ≡ cond b x x
cond_same true x = refl
cond_same false x = refl

-- an even place has the high half, an odd one the low half
pub halves_at : (octets : List ℕ) (place : ℕ) → get_or (half_octets octets) place 0 ≡ cond (eqb (place % 2) 0) (get_or octets (place / 2) 0 / 16) (get_or octets (place / 2) 0 % 16)
halves_at [] place = cond_same (eqb (place % 2) 0) 0
halves_at (octet ∷ octets) zero = refl
halves_at (octet ∷ octets) (suc zero) = refl
halves_at (octet ∷ octets) (suc (suc place)) =
    let even : suc (suc place) % 2 ≡ place % 2 = omega arith in
    let half : suc (suc place) / 2 ≡ suc (place / 2) = omega arith in
    rw (even, half) (halves_at octets place)

pub length-half_octets : (octets : List ℕ) → length (half_octets octets) ≡ 2 * length octets
length-half_octets [] = refl
length-half_octets (octet ∷ octets) = omega (arith, length-half_octets octets)

-- ---- one half-octet after another

pub digit_more : (all digits : List ℕ) (from place digit : ℕ) → from + place < length all → digit ≡ get_or all (from + place) 0 → digits ≡ take place (drop from all) → digits ++ digit ∷ [] ≡ take (place + 1) (drop from all)
digit_more all digits from place digit within is so_far =
    let lt : place < length (drop from all) = omega (arith, length-drop from all) in
    let here : get_or (drop from all) place 0 ≡ digit = get_or-drop from all place 0 ∙ sym is in
    rw (take_more (drop from all) place 0 lt, here, so_far) refl

abbrev pub is_digit : ℕ → Bool
is_digit half = ltb half 10

pub all_more : (all : List ℕ) (from place digit : ℕ) → from + place < length all → digit ≡ get_or all (from + place) 0 → digit < 10 → list_all is_digit (take place (drop from all)) ≡ true → list_all is_digit (take (place + 1) (drop from all)) ≡ true
all_more all from place digit within is below so_far =
    let lt : place < length (drop from all) = omega (arith, length-drop from all) in
    let here : get_or (drop from all) place 0 ≡ digit = get_or-drop from all place 0 ∙ sym is in
    list_all_more is_digit (drop from all) place 0 lt ∙ and_from _ _ so_far (rw here (lt-ltb digit 10 below))

pub none_at : (all : List ℕ) (from count place digit : ℕ) → from + count ≤ length all → place < count → digit ≡ get_or all (from + place) 0 → 10 ≤ digit → list_all is_digit (take count (drop from all)) ≡ false
none_at all from count place digit within below is above =
    let lt : place < length (take count (drop from all)) = omega (arith, length-take count (drop from all), length-drop from all) in
    let here : get_or (take count (drop from all)) place 0 ≡ digit = get_or-take count (drop from all) place 0 below ∙ get_or-drop from all place 0 ∙ sym is in
    list_all_at is_digit (take count (drop from all)) place 0 lt (rw here (le-ltb digit 10 above))

-- ---- digits

pub AreDigits-from_all : (digits : List ℕ) → list_all is_digit digits ≡ true → AreDigits digits
AreDigits-from_all [] all = tt
AreDigits-from_all (digit ∷ digits) all =
    let parts = and_parts (ltb digit 10) (list_all is_digit digits) all in
    (ltb-true digit 10 parts.0, AreDigits-from_all digits parts.1)

pub all-from_AreDigits : (digits : List ℕ) → AreDigits digits → list_all is_digit digits ≡ true
all-from_AreDigits [] are = refl
all-from_AreDigits (digit ∷ digits) are = and_from _ _ (lt-ltb digit 10 are.0) (all-from_AreDigits digits are.1)

pub AreDigits-append : (a b : List ℕ) → AreDigits a → AreDigits b → AreDigits (a ++ b)
AreDigits-append [] b a_are b_are = b_are
AreDigits-append (digit ∷ a) b a_are b_are = (a_are.0, AreDigits-append a b a_are.1 b_are)

pub AreDigits-at : (digits : List ℕ) (place : ℕ) → AreDigits digits → get_or digits place 0 < 10
AreDigits-at [] place are = omega arith
AreDigits-at (digit ∷ digits) zero are = are.0
AreDigits-at (digit ∷ digits) (suc place) are = AreDigits-at digits place are.1

-- ---- the filling

pub length-filling : (count : ℕ) → length (filling count) ≡ count % 2
length-filling count =
    elim (cases_Bool (eqb (count % 2) 1)) [
      | inl odd ↦ rw odd (sym (eqb-true _ _ odd))
      | inr even ↦ rw even (let ne = eqb-false (count % 2) 1 even in omega (arith, ne))
    ]

-- what stands after the digits of whole octets is nothing, or one half-octet
pub drop_count : (all : List ℕ) (count : ℕ) → length all ≡ 2 * octets_for count → drop count all ≡ cond (eqb (count % 2) 1) (get_or all count 0 ∷ []) []
drop_count all count len =
    elim (cases_Bool (eqb (count % 2) 1)) [
      | inl odd ↦
          let one : count % 2 ≡ 1 = eqb-true _ _ odd in
          let lt : count < length all = omega arith in
          let rest : drop (count + 1) all ≡ [] = drop_all (count + 1) all (omega arith) in
          rw (odd, drop_more all count 0 lt, rest) refl
      | inr even ↦
          let ne = eqb-false (count % 2) 1 even in
          rw even (drop_all count all (omega (arith, ne)))
    ]

-- ---- packing

packed_step : (digits : List ℕ) → 0 < length digits → packed digits ≡ (16 * get_or digits 0 0 + get_or digits 1 0) ∷ packed (drop 2 digits)
packed_step [] some = absurd (omega arith)
packed_step (high ∷ []) some = ap (λ (octet : ℕ). octet ∷ []) (omega arith)
packed_step (high ∷ low ∷ rest) some = refl

-- the octet at a place, before those after it
pub packed_more : (digits : List ℕ) (place : ℕ) → 2 * place < length digits → packed (drop (2 * place) digits) ≡ (16 * get_or digits (2 * place) 0 + get_or digits (2 * place + 1) 0) ∷ packed (drop (2 * (place + 1)) digits)
packed_more digits place within =
    let some : 0 < length (drop (2 * place) digits) = omega (arith, length-drop (2 * place) digits) in
    let next : 2 * (place + 1) ≡ 2 * place + 2 = omega arith in
    let here : get_or (drop (2 * place) digits) 0 0 ≡ get_or digits (2 * place) 0 = get_or-drop (2 * place) digits 0 0 ∙ ap (λ (i : ℕ). get_or digits i 0) (omega arith) in
    let there : get_or (drop (2 * place) digits) 1 0 ≡ get_or digits (2 * place + 1) 0 = get_or-drop (2 * place) digits 1 0 in
    let after : drop 2 (drop (2 * place) digits) ≡ drop (2 * place + 2) digits = drop-drop 2 (2 * place) digits in
    packed_step (drop (2 * place) digits) some ∙ rw (here, there, after, next) refl

pub length-packed : (digits : List ℕ) → length (packed digits) ≡ octets_for (length digits)
length-packed [] = refl
length-packed (high ∷ []) = refl
length-packed (high ∷ low ∷ rest) = omega (arith, length-packed rest)

even_on : (count : ℕ) → filling (suc (suc count)) ≡ filling count
even_on count = let same : suc (suc count) % 2 ≡ count % 2 = omega arith in rw same refl

-- packed digits are these half-octets and the filling
pub half_octets-packed : (digits : List ℕ) → AreDigits digits → half_octets (packed digits) ≡ digits ++ filling (length digits)
half_octets-packed [] are = refl
half_octets-packed (high ∷ []) are =
    let a : 16 * high / 16 ≡ high = omega arith in
    let b : 16 * high % 16 ≡ 0 = omega arith in
    rw (a, b) refl
half_octets-packed (high ∷ low ∷ rest) are =
    let below = are.1.0 in
    let a : (16 * high + low) / 16 ≡ high = omega arith in
    let b : (16 * high + low) % 16 ≡ low = omega arith in
    rw (a, b, half_octets-packed rest are.1.1, even_on (length rest)) refl

-- half-octets stand for one run of octets
pub same_halves : (a b : List ℕ) → half_octets a ≡ half_octets b → a ≡ b
same_halves [] [] same = refl
same_halves [] (y ∷ b) same = absurd cc
same_halves (x ∷ a) [] same = absurd cc
same_halves (x ∷ a) (y ∷ b) same =
    let high : x / 16 ≡ y / 16 = cc in
    let low : x % 16 ≡ y % 16 = cc in
    let rest : half_octets a ≡ half_octets b = cc in
    let one : x ≡ y = omega arith in
    rw (one, same_halves a b rest) refl

-- one octet written
pub packs_on : (out before digits : List ℕ) (place high low : ℕ) → 2 * place < length digits → high ≡ get_or digits (2 * place) 0 → low ≡ get_or digits (2 * place + 1) 0
    → out ++ packed (drop (2 * place) digits) ≡ before ++ packed digits → (out ++ (16 * high + low) ∷ []) ++ packed (drop (2 * (place + 1)) digits) ≡ before ++ packed digits
packs_on out before digits place high low within high_is low_is so_far =
    append_assoc out ((16 * high + low) ∷ []) (packed (drop (2 * (place + 1)) digits)) ∙ ap (λ (rest : List ℕ). out ++ rest) (rw (high_is, low_is) (sym (packed_more digits place within))) ∙ so_far

-- what was read is what reading gives
pub digits_read : (octets digits : List ℕ) (from count place : ℕ) → place ≡ count → list_all is_digit (take place (drop from (half_octets octets))) ≡ true → digits ≡ take place (drop from (half_octets octets)) → digits_at octets from count ≡ Ok digits
unfolding digits_at
digits_read octets digits from count place done are is =
    let those : list_all is_digit (take count (drop from (half_octets octets))) ≡ true = rw (← done) are in
    rw (those, is, done) refl
