-- Blocks: what is read is spelled so, what is spelled so is read, and what is wrong is the first of the conditions.
use Rattle.std.proofs.Common.{◌≡◌, ℕ, ◌+◌, ◌*◌, ◌/◌, ◌%◌, ◌<◌, ◌≤◌, Bool, true, false, not, cond, eqb, ltb, ◌&&◌, ◌||◌, List, [], ◌∷◌, ◌++◌, length, get_or, take, drop, Option, Some, None, Result, Ok, Err, refl, sym, ap, subst, ◌∙◌, append_assoc, arith, inl, inr}
use Rattle.std.specs.List.{list_all}
use Rattle.std.proofs.lemmas.Bool.{eqb-true, cases_Bool, and_parts, and_from, not-false, or_parts, or_from, ltb-false, le-ltb, cond-true, cond-false}
use Rattle.std.proofs.lemmas.List.{take-append-drop, length-append, length-take-le, length-drop, take_at, drop_at}
use Rattle.std.proofs.lemmas.List.Folds.{list_all-append}
use Rattle.std.proofs.Math.Seq.{take-add}
use Rattle.xp_packets.specs.declared.block.Block.{Block}
use Rattle.xp_packets.specs.declared.fault.Malformed.{Malformed}
use Rattle.xp_packets.specs.declared.fault.Malformed.TheVariants.{Address, Facilities, Long}
use Rattle.xp_packets.specs.Digits.{half_octets, filling, octets_for, SpellsAddresses}
use Rattle.xp_packets.specs.Spelling.{SpellsFields, BlockBy}
use Rattle.xp_packets.specs.Examination.{first_of, digit_octets, after_digits, has_wrong_address, has_wrong_size, after_facilities}
use Rattle.xp_packets.specs.steps.Reading.{◌>>=◌, digits_at, addresses_at, fields_at, block_at, optional_block_at}
use Rattle.xp_packets.proofs.HalfOctets.{is_digit, length-half_octets, length-filling, drop_count, AreDigits-from_all, all-from_AreDigits}
use Rattle.xp_packets.proofs.Results.{bind_ok, guard_ok, ok_is, error_of, error_guard}

-- ---- addresses

abbrev is_zero : ℕ → Bool
is_zero half = eqb half 0

-- what is wrong with so many half-octets
abbrev wrong_run : ℕ → List ℕ → Bool
wrong_run count all = not (list_all is_digit (take count all)) || not (list_all is_zero (drop count all))

abbrev read_run : ℕ → ℕ → List ℕ → List ℕ → Result (List ℕ × List ℕ × List ℕ) Malformed
read_run called calling all rest = cond (wrong_run (called + calling) all) (Err Address) (Ok (take called all, take calling (drop called all), rest))

-- the tests one after another, and all at once
abbrev read_in_turn : Bool → Bool → Bool → List ℕ → List ℕ → List ℕ → Result (List ℕ × List ℕ × List ℕ) Malformed
read_in_turn a b w x y r = (cond a (Ok x) (Err Address)) >>= λ t. (cond b (Ok y) (Err Address)) >>= λ u. cond w (Err Address) (Ok (t, u, r))

tests_at_once : (a b w : Bool) (x y r : List ℕ) → read_in_turn a b w x y r ≡ cond (not (a && b) || w) (Err Address) (Ok (x, y, r))
tests_at_once true true w x y r = refl
tests_at_once true false w x y r = refl
tests_at_once false b w x y r = refl

last_zero : (b : Bool) → not (b && true) ≡ (true && not b)
last_zero true = refl
last_zero false = refl

-- the filling is zero where there is one
filled : (all : List ℕ) (count : ℕ) → length all ≡ 2 * octets_for count → not (list_all is_zero (drop count all)) ≡ ((eqb (count % 2) 1) && not (eqb (get_or all count 0) 0))
filled all count len =
    elim (cases_Bool (eqb (count % 2) 1)) [
      | inl odd ↦ rw (drop_count all count len, odd) (last_zero (eqb (get_or all count 0) 0))
      | inr even ↦ rw (drop_count all count len, even) refl
    ]

length-run : (octets : List ℕ) (n : ℕ) → n ≤ length octets → length (half_octets (take n octets)) ≡ 2 * n
length-run octets n within = omega (arith, length-half_octets (take n octets), length-take-le n octets within)

addresses_are : (called calling : ℕ) (octets : List ℕ) → addresses_at called calling octets ≡ cond (ltb (length octets) (octets_for (called + calling))) (Err Address) (read_run called calling (half_octets (take (octets_for (called + calling)) octets)) (drop (octets_for (called + calling)) octets))
unfolding addresses_at digits_at
addresses_are called calling octets =
    let n : ℕ = octets_for (called + calling) in
    let all : List ℕ = half_octets (take n octets) in
    elim (cases_Bool (ltb (length octets) n)) [
      | inl short ↦ rw short refl
      | inr long ↦
          let len : length all ≡ 2 * n = length-run octets n (ltb-false _ _ long) in
          let together : list_all is_digit (take (called + calling) all) ≡ (list_all is_digit (take called all) && list_all is_digit (take calling (drop called all))) = ap (list_all is_digit) (take-add called calling all) ∙ list_all-append is_digit (take called all) (take calling (drop called all)) in
          rw (long, together, filled all (called + calling) len) (tests_at_once (list_all is_digit (take called all)) (list_all is_digit (take calling (drop called all))) _ _ _ _)
    ]

zero_fill : (all : List ℕ) (count : ℕ) → length all ≡ 2 * octets_for count → list_all is_zero (drop count all) ≡ true → drop count all ≡ filling count
zero_fill all count len zeros =
    elim (cases_Bool (eqb (count % 2) 1)) [
      | inl odd ↦
          let here : drop count all ≡ get_or all count 0 ∷ [] = drop_count all count len ∙ cond-true _ _ _ odd in
          let zero_is : get_or all count 0 ≡ 0 = eqb-true _ _ (and_parts _ _ (rw here at zeros)).0 in
          rw (here, zero_is, odd) refl
      | inr even ↦ drop_count all count len ∙ rw even refl
    ]

filling_zero : (count : ℕ) → list_all is_zero (filling count) ≡ true
filling_zero count = elim (cases_Bool (eqb (count % 2) 1)) [ inl odd ↦ rw odd refl | inr even ↦ rw even refl ]

-- what both addresses take, and what stands after them
abbrev pub TakesAddresses : ℕ → ℕ → List ℕ → List ℕ × List ℕ × List ℕ → Type 0
TakesAddresses called calling octets x = (digits : List ℕ) × (octets ≡ digits ++ x.2) × SpellsAddresses digits x.0 x.1 × (length x.0 ≡ called) × (length x.1 ≡ calling)

addresses_takes : (called calling : ℕ) (octets : List ℕ) (x : List ℕ × List ℕ × List ℕ) → called ≤ 15 → calling ≤ 15 → addresses_at called calling octets ≡ Ok x → TakesAddresses called calling octets x
addresses_takes called calling octets x called_most calling_most e =
    let count : ℕ = called + calling in
    let n : ℕ = octets_for count in
    let run : List ℕ = take n octets in
    let all : List ℕ = half_octets run in
    let long = guard_ok (ltb (length octets) n) Address _ x (sym (addresses_are called calling octets) ∙ e) in
    let right = guard_ok (wrong_run count all) Address _ x long.1 in
    let len : length all ≡ 2 * n = length-run octets n (ltb-false _ _ long.0) in
    let tests = or_parts _ _ right.0 in
    let digits_all : list_all is_digit (take count all) ≡ true = not-false _ tests.0 in
    let together : list_all is_digit (take called all ++ take calling (drop called all)) ≡ true = rw (← take-add called calling all) digits_all in
    let each = and_parts _ _ (sym (list_all-append is_digit (take called all) (take calling (drop called all))) ∙ together) in
    let called_len : length (take called all) ≡ called = length-take-le called all (omega arith) in
    let calling_len : length (take calling (drop called all)) ≡ calling = length-take-le calling (drop called all) (omega (arith, length-drop called all)) in
    let rest_is : drop count all ≡ filling count = zero_fill all count len (not-false _ tests.1) in
    let whole : all ≡ (take called all ++ take calling (drop called all)) ++ filling count = sym (take-append-drop count all) ∙ ap (λ (front : List ℕ). front ++ drop count all) (take-add called calling all) ∙ ap (λ (rest : List ℕ). (take called all ++ take calling (drop called all)) ++ rest) rest_is in
    let made : List ℕ × List ℕ × List ℕ = (take called all, take calling (drop called all), drop n octets) in
    subst (TakesAddresses called calling octets) (ok_is made x right.1) (
      run,
      sym (take-append-drop n octets),
      record {
        called_most = omega arith;
        calling_most = omega arith;
        called_digits = AreDigits-from_all _ each.0;
        calling_digits = AreDigits-from_all _ each.1;
        coded = rw (called_len, calling_len) whole;
      },
      called_len,
      calling_len,
    )

addresses_again : (digits called calling rest : List ℕ) → SpellsAddresses digits called calling → addresses_at (length called) (length calling) (digits ++ rest) ≡ Ok (called, calling, rest)
addresses_again digits called calling rest spelled =
    let count : ℕ = length called + length calling in
    let n : ℕ = octets_for count in
    let fill : List ℕ = filling count in
    let len : length digits ≡ n = omega (arith, length-half_octets digits, ap length spelled.coded, length-append (called ++ calling) fill, length-append called calling, length-filling count) in
    let long : ltb (length (digits ++ rest)) n ≡ false = le-ltb _ _ (omega (arith, length-append digits rest)) in
    let both : length (called ++ calling) ≡ count = length-append called calling in
    let front : take count ((called ++ calling) ++ fill) ≡ called ++ calling = take_at (called ++ calling) fill count both in
    let back : drop count ((called ++ calling) ++ fill) ≡ fill = drop_at (called ++ calling) fill count both in
    let digits_all : list_all is_digit (called ++ calling) ≡ true = list_all-append is_digit called calling ∙ and_from _ _ (all-from_AreDigits called spelled.called_digits) (all-from_AreDigits calling spelled.calling_digits) in
    let to : take (length called) ((called ++ calling) ++ fill) ≡ called = ap (take (length called)) (append_assoc called calling fill) ∙ take_at called (calling ++ fill) (length called) refl in
    let after : drop (length called) ((called ++ calling) ++ fill) ≡ calling ++ fill = ap (drop (length called)) (append_assoc called calling fill) ∙ drop_at called (calling ++ fill) (length called) refl in
    let by : take (length calling) (calling ++ fill) ≡ calling = take_at calling fill (length calling) refl in
    addresses_are (length called) (length calling) (digits ++ rest) ∙ rw (long, take_at digits rest n len, drop_at digits rest n len, spelled.coded, front, back, digits_all, filling_zero count, to, after, by) refl

-- ---- facilities and user data

-- fields with so much user data at most
abbrev TakesFields : ℕ → List ℕ → List ℕ × List ℕ → Type 0
TakesFields most octets x = SpellsFields octets x.0 x.1 × (length x.1 ≤ most)

fields_takes : (most : ℕ) (octets : List ℕ) (x : List ℕ × List ℕ) → most ≤ 128 → fields_at most octets ≡ Ok x → TakesFields most octets x
unfolding fields_at
fields_takes most [] x below e =
    let made : List ℕ × List ℕ = ([], []) in
    subst (TakesFields most []) (ok_is made x e) ((refl, refl), omega arith)
fields_takes most (size ∷ rest) x below e =
    let sized = guard_ok (ltb 109 size || ltb (length rest) size) Facilities _ x e in
    let short = guard_ok (ltb most (length (drop size rest))) Long _ x sized.1 in
    let bounds = or_parts (ltb 109 size) (ltb (length rest) size) sized.0 in
    let size_most : size ≤ 109 = ltb-false _ _ bounds.0 in
    let within : size ≤ length rest = ltb-false _ _ bounds.1 in
    let user_most : length (drop size rest) ≤ most = ltb-false _ _ short.0 in
    let len : length (take size rest) ≡ size = length-take-le size rest within in
    let made : List ℕ × List ℕ = (take size rest, drop size rest) in
    subst (TakesFields most (size ∷ rest)) (ok_is made x short.1) ((sym len, sym (take-append-drop size rest), omega arith, omega arith), user_most)

fields_again : (most : ℕ) (octets facilities user : List ℕ) → SpellsFields octets facilities user → length user ≤ most → fields_at most octets ≡ Ok (facilities, user)
unfolding fields_at
fields_again most [] facilities user spelled within = rw (spelled.0, spelled.1) refl
fields_again most (size ∷ rest) facilities user spelled within =
    let front : take size rest ≡ facilities = rw (spelled.1) (take_at facilities user size (sym spelled.0)) in
    let back : drop size rest ≡ user = rw (spelled.1) (drop_at facilities user size (sym spelled.0)) in
    let sized : (ltb 109 size || ltb (length rest) size) ≡ false = or_from (ltb 109 size) (ltb (length rest) size) (le-ltb 109 size (omega (arith, spelled.0, spelled.2))) (le-ltb (length rest) size (omega (arith, spelled.0, ap length spelled.1, length-append facilities user))) in
    let short : ltb most (length user) ≡ false = le-ltb _ _ within in
    rw (sized, back, short, front) refl

-- ---- whole blocks

-- each is an octet
abbrev pub AreOctets : List ℕ → Type 0
AreOctets octets = (i : ℕ) → get_or octets i 0 < 256

abbrev pub block_with : {A : Type 0} → List ℕ × List ℕ × List ℕ → List ℕ × List ℕ → Block A
block_with addresses fields = record { called = addresses.0; calling = addresses.1; facilities = fields.0; user = fields.1 }

abbrev pub ok_block : {A : Type 0} → Block A → Result (Block A) Malformed
ok_block block = Ok block

-- a block with so much user data at most
abbrev pub TakesBlock : (A : Type 0) → ℕ → List ℕ → Block A → Type 0
TakesBlock A most octets block = BlockBy SpellsFields A octets block × (length block.user ≤ most)

pub block_takes : (A : Type 0) (most : ℕ) (octets : List ℕ) (block : Block A) → most ≤ 128 → AreOctets octets → block_at most octets ≡ Ok block → TakesBlock A most octets block
unfolding block_at
block_takes A most [] block below are e = absurd cc
block_takes A most (lengths ∷ rest) block below are e =
    let a = bind_ok (addresses_at (lengths % 16) (lengths / 16) rest) (λ (x : List ℕ × List ℕ × List ℕ). fields_at most x.2 >>= λ (y : List ℕ × List ℕ). ok_block (block_with x y)) block e in
    let b = bind_ok (fields_at most a.0.2) (λ (y : List ℕ × List ℕ). ok_block (block_with a.0 y)) block a.2 in
    let first : lengths < 256 = are 0 in
    let t = addresses_takes (lengths % 16) (lengths / 16) rest a.0 (omega arith) (omega arith) a.1 in
    let f = fields_takes most a.0.2 b.0 below b.1 in
    let lengths_is : 16 * length a.0.1 + length a.0.0 ≡ lengths = omega (arith, t.3, t.4) in
    subst (TakesBlock A most (lengths ∷ rest)) (ok_is (block_with a.0 b.0) block b.2) (
      record {
        digits = t.0;
        rest = a.0.2;
        whole = rw (lengths_is, ← t.1) refl;
        addresses = t.2;
        fields = f.0;
      },
      f.1,
    )

pub block_again : (A : Type 0) (most : ℕ) (octets : List ℕ) (block : Block A) → BlockBy SpellsFields A octets block → length block.user ≤ most → block_at most octets ≡ Ok block
unfolding block_at
block_again A most octets block spelled within =
    let low : (16 * length block.calling + length block.called) % 16 ≡ length block.called = omega (arith, spelled.addresses.called_most) in
    let high : (16 * length block.calling + length block.called) / 16 ≡ length block.calling = omega (arith, spelled.addresses.called_most) in
    rw (spelled.whole, low, high, addresses_again spelled.digits block.called block.calling spelled.rest spelled.addresses, fields_again most spelled.rest block.facilities block.user spelled.fields within) refl

-- what is no block, or one
abbrev pub TakesOption : (A : Type 0) → ℕ → List ℕ → Option (Block A) → Type 0
TakesOption A most octets None = octets ≡ []
TakesOption A most octets (Some block) = TakesBlock A most octets block

abbrev ok_option : {A : Type 0} → Option (Block A) → Result (Option (Block A)) Malformed
ok_option block = Ok block

pub option_takes : (A : Type 0) (most : ℕ) (octets : List ℕ) (block : Option (Block A)) → most ≤ 128 → AreOctets octets → optional_block_at most octets ≡ Ok block → TakesOption A most octets block
unfolding optional_block_at
option_takes A most [] block below are e = subst (TakesOption A most []) (ok_is None block e) refl
option_takes A most (octet ∷ rest) block below are e =
    let a = bind_ok (block_at most (octet ∷ rest)) (λ (y : Block A). ok_option (Some y)) block e in
    subst (TakesOption A most (octet ∷ rest)) (ok_is (Some a.0) block a.2) (block_takes A most (octet ∷ rest) a.0 below are a.1)

pub some_again : (A : Type 0) (most : ℕ) (octets : List ℕ) (block : Block A) → BlockBy SpellsFields A octets block → length block.user ≤ most → optional_block_at most octets ≡ Ok (Some block)
unfolding optional_block_at
some_again A most [] block spelled within = absurd (let e = spelled.whole in cc)
some_again A most (octet ∷ rest) block spelled within = rw (block_again A most (octet ∷ rest) block spelled within) refl

-- the user data of a block is never more
pub user_most : (A : Type 0) (octets : List ℕ) (block : Block A) → BlockBy SpellsFields A octets block → length block.user ≤ 128
user_most A octets block spelled = within spelled.rest spelled.fields
  where
    within : (rest : List ℕ) → SpellsFields rest block.facilities block.user → length block.user ≤ 128
    within [] fields = omega (arith, ap length fields.1)
    within (size ∷ rest) fields = fields.3

-- ---- what is wrong with a block

-- one fault for two conditions
merged : {X Y : Type 0} (s w : Bool) (x : X) (g : X → Result Y Malformed) → ((cond s (Err Address) (cond w (Err Address) (Ok x))) >>= g) ≡ cond (s || w) (Err Address) (g x)
merged true w x g = refl
merged false true x g = refl
merged false false x g = refl

-- a test before a last step that cannot fail
moved_in : {X Y : Type 0} (b : Bool) (w : Malformed) (r : Result X Malformed) (f : X → Result Y Malformed) → ((cond b (Err w) r) >>= f) ≡ cond b (Err w) (r >>= f)
moved_in true w r f = refl
moved_in false w r f = refl

facilities_of : List ℕ → List ℕ
facilities_of [] = []
facilities_of (size ∷ rest) = take size rest

-- the fields in one choice
fields_are : {Y : Type 0} (most : ℕ) (octets : List ℕ) (f : List ℕ × List ℕ → Result Y Malformed) → (fields_at most octets >>= f) ≡ cond (has_wrong_size octets) (Err Facilities) (cond (ltb most (length (after_facilities octets))) (Err Long) (f (facilities_of octets, after_facilities octets)))
unfolding fields_at facilities_of
fields_are most [] f = sym (cond-false _ (Err Long) (f ([], [])) (le-ltb most 0 (omega arith)))
fields_are most (size ∷ rest) f = moved_in (ltb 109 size || ltb (length rest) size) Facilities _ f ∙ ap (λ r. cond (ltb 109 size || ltb (length rest) size) (Err Facilities) r) (moved_in (ltb most (length (drop size rest))) Long _ f)

-- the block where nothing is wrong
plain_block : {A : Type 0} → ℕ → List ℕ → Block A
plain_block lengths rest =
    let all : List ℕ = half_octets (digit_octets (lengths ∷ rest)) in
    record { called = take (lengths % 16) all; calling = take (lengths / 16) (drop (lengths % 16) all); facilities = facilities_of (after_digits (lengths ∷ rest)); user = after_facilities (after_digits (lengths ∷ rest)) }

-- the block in one choice
block_is : (A : Type 0) (most lengths : ℕ) (rest : List ℕ) → block_at most (lengths ∷ rest) ≡ cond (has_wrong_address (lengths ∷ rest)) (Err Address) (cond (has_wrong_size (after_digits (lengths ∷ rest))) (Err Facilities) (cond (ltb most (length (after_facilities (after_digits (lengths ∷ rest))))) (Err Long) (ok_block (plain_block {A = A} lengths rest))))
unfolding block_at plain_block
block_is A most lengths rest =
    let n : ℕ = octets_for (lengths % 16 + lengths / 16) in
    let all : List ℕ = half_octets (take n rest) in
    let x : List ℕ × List ℕ × List ℕ = (take (lengths % 16) all, take (lengths / 16) (drop (lengths % 16) all), drop n rest) in
    let g = λ (z : List ℕ × List ℕ × List ℕ). fields_at most z.2 >>= λ (y : List ℕ × List ℕ). ok_block (block_with {A = A} z y) in
    rw (addresses_are (lengths % 16) (lengths / 16) rest, merged {Y = Block A} (ltb (length rest) n) (wrong_run (lengths % 16 + lengths / 16) all) x g, fields_are most (drop n rest) (λ (y : List ℕ × List ℕ). ok_block (block_with {A = A} x y))) refl

abbrev pub block_conditions : ℕ → List ℕ → List (Bool × Malformed)
block_conditions most octets = (has_wrong_address octets, Address) ∷ (has_wrong_size (after_digits octets), Facilities) ∷ (ltb most (length (after_facilities (after_digits octets))), Long) ∷ []

pub block_error : (A : Type 0) (most lengths : ℕ) (rest : List ℕ) → error_of (block_at {A = A} most (lengths ∷ rest)) ≡ first_of (block_conditions most (lengths ∷ rest))
block_error A most lengths rest =
    ap (λ (r : Result (Block A) Malformed). error_of r) (block_is A most lengths rest) ∙ error_guard (has_wrong_address (lengths ∷ rest)) Address _ _ (error_guard (has_wrong_size (after_digits (lengths ∷ rest))) Facilities _ _ (error_guard (ltb most (length (after_facilities (after_digits (lengths ∷ rest))))) Long _ None refl))
