-- The first place at which a test passes, and look-ups, in lists that grow at the end.
use Rattle.std.proofs.Common.{◌≡◌, ℕ, zero, suc, ◌+◌, ◌-◌, ◌<◌, ◌≤◌, List, [], ◌∷◌, ◌++◌, Bool, true, false, not, cond, Option, None, Some, All, inl, inr, length, length-append, eqb, map, get_or, refl, sym, ap, ◌∙◌, arith}
use Rattle.std.specs.Prelude.{position, nat_lt}
use Rattle.std.specs.List.{position_or_len, prefix_len}
use Rattle.std.specs.Map.{lookup}
use Rattle.std.proofs.lemmas.Bool.{cases_Bool, cases_lt, eq-eqb, ne_eqb, lt-ltb, le-ltb}
use Rattle.std.proofs.lemmas.List.{length-map, get_or-append_right}
use Rattle.std.proofs.lemmas.List.Elements.{All-head, All-tail}
use Rattle.std.proofs.lemmas.List.Folds.{position_or_len_push}
use Rattle.std.proofs.lemmas.List.Sums.{prefix_len-le-length}

-- what a search finds once there is one more at the end
abbrev pub or_last : {X : Type 0} → Option X → Bool → X → Option X
or_last None true x = Some x
or_last None false x = None
or_last (Some found) test x = Some found

pub lookup-push : {K X : Type 0} (test : K → Bool) (es : List (K × X)) (k : K) (x : X)
    → lookup test (es ++ (k, x) ∷ []) ≡ or_last (lookup test es) (test k) x
lookup-push test [] k x = elim (test k) as (λ b. cond b (Some x) None ≡ or_last None b x) [ true ↦ refl | false ↦ refl ]
lookup-push test (e ∷ es) k x =
    elim (cases_Bool (test e.0)) [
      | inl here ↦ rw here
      | inr apart ↦ rw apart (lookup-push test es k x)
    ]

-- the place, where it is within
within : ℕ → ℕ → Option ℕ
within place len = cond (nat_lt place len) (Some place) None

grown : (place len : ℕ) (passes : Bool) → place ≤ len
    → within (cond (eqb place len) (len + cond passes 0 1) place) (len + 1) ≡ or_last (within place len) passes len
unfolding within
grown place len passes bound =
    elim (cases_lt place len) [
      | inl below ↦
          let apart : eqb place len ≡ false = ne_eqb place len (λ e. omega arith) in
          let one : nat_lt place len ≡ true = lt-ltb place len below in
          let more : nat_lt place (len + 1) ≡ true = lt-ltb place (len + 1) (omega arith) in
          rw (apart, one, more)
      | inr above ↦ at_end passes (eq-eqb place len (omega arith)) (le-ltb place len above)
    ]
  where
    at_end : (passes : Bool) → eqb place len ≡ true → nat_lt place len ≡ false
        → within (cond (eqb place len) (len + cond passes 0 1) place) (len + 1) ≡ or_last (within place len) passes len
    at_end true same none =
        let more : nat_lt (len + 0) (len + 1) ≡ true = lt-ltb (len + 0) (len + 1) (omega arith) in
        let plain : len + 0 ≡ len = omega arith in
        rw (same, none, more) (ap (λ n. Some n) plain)
    at_end false same none =
        let more : nat_lt (len + 1) (len + 1) ≡ false = le-ltb (len + 1) (len + 1) (omega arith) in
        rw (same, none, more)

pub position-push : {X : Type 0} (p : X → Bool) (xs : List X) (y : X) → position p (xs ++ y ∷ []) ≡ or_last (position p xs) (p y) (length xs)
unfolding within
position-push p xs y =
    let longer : length (xs ++ y ∷ []) ≡ length xs + 1 = length-append xs (y ∷ []) in
    ap (λ m. within m (length (xs ++ y ∷ []))) (position_or_len_push p xs y)
    ∙ ap (λ k. within (cond (eqb (position_or_len p xs) (length xs)) (length xs + cond (p y) 0 1) (position_or_len p xs)) k) longer
    ∙ grown (position_or_len p xs) (length xs) (p y) (prefix_len-le-length (λ x. not (p x)) xs)

prefix_len-map : {X Y : Type 0} (p : Y → Bool) (f : X → Y) (xs : List X) → prefix_len p (map f xs) ≡ prefix_len (λ x. p (f x)) xs
prefix_len-map p f [] = refl
prefix_len-map p f (x ∷ xs) = ap (λ n. cond (p (f x)) (1 + n) 0) (prefix_len-map p f xs)

pub position-map : {X Y : Type 0} (p : Y → Bool) (f : X → Y) (xs : List X) → position p (map f xs) ≡ position (λ x. p (f x)) xs
unfolding within
position-map p f xs =
    ap (λ m. within m (length (map f xs))) (prefix_len-map (λ y. not (p y)) f xs)
    ∙ ap (λ k. within (position_or_len (λ x. p (f x)) xs) k) (length-map xs f)

-- an element of a list with one more at the end
pub get_or-last : {X : Type 0} (xs : List X) (x d : X) → get_or (xs ++ x ∷ []) (length xs) d ≡ x
get_or-last xs x d =
    let within_end : length xs ≤ length xs = omega arith in
    let first : length xs - length xs ≡ 0 = omega arith in
    get_or-append_right xs (x ∷ []) (length xs) (length xs) d refl within_end ∙ ap (λ i. get_or (x ∷ []) i d) first

-- an element of a list that a function made, where the function also makes the default
pub get_or-shown : {X Y : Type 0} (f : X → Y) (xs : List X) (i : ℕ) (d : X) → get_or (map f xs) i (f d) ≡ f (get_or xs i d)
get_or-shown f [] i d = refl
get_or-shown f (x ∷ xs) zero d = refl
get_or-shown f (x ∷ xs) (suc i) d = get_or-shown f xs i d

-- where a test passes, one place at least is found
first_passes : {X : Type 0} (p : X → Bool) (xs : List X) (i : ℕ) (d : X) → i < length xs → p (get_or xs i d) ≡ true → position_or_len p xs < length xs
first_passes p [] i d inside here = absurd (omega arith)
first_passes p (x ∷ xs) i d inside here =
    elim (cases_Bool (p x)) [
      | inl passes ↦ rw passes (omega arith)
      | inr apart ↦ rw apart (further i inside here apart (λ j. first_passes p xs j d))
    ]
  where
    further : (i : ℕ) → i < length (x ∷ xs) → p (get_or (x ∷ xs) i d) ≡ true → p x ≡ false
        → ((j : ℕ) → j < length xs → p (get_or xs j d) ≡ true → position_or_len p xs < length xs)
        → 1 + position_or_len p xs < suc (length xs)
    further zero inside here apart rest = let never : true ≡ false = sym here ∙ apart in cc
    further (suc i) inside here apart rest = let more = rest i (omega arith) here in omega (arith, more)

pub none_passes : {X : Type 0} (p : X → Bool) (xs : List X) (i : ℕ) (d : X) → i < length xs → position p xs ≡ None → p (get_or xs i d) ≡ false
none_passes p xs i d inside none =
    elim (cases_Bool (p (get_or xs i d))) [
      | inl here ↦
          let found : nat_lt (position_or_len p xs) (length xs) ≡ true = lt-ltb (position_or_len p xs) (length xs) (first_passes p xs i d inside here) in
          let never : Some (position_or_len p xs) ≡ None = rw found at none in cc
      | inr apart ↦ apart
    ]

-- two tests that agree on each element find the same place
pub position-alike : {X : Type 0} (p q : X → Bool) (xs : List X) → All (λ x. p x ≡ q x) xs → position p xs ≡ position q xs
unfolding within
position-alike {X} p q xs alike = ap (λ n. within n (length xs)) (by xs alike)
  where
    by : (xs : List X) → All (λ x. p x ≡ q x) xs → position_or_len p xs ≡ position_or_len q xs
    by [] alike = refl
    by (x ∷ xs) alike =
        ap (λ b. cond (not b) (1 + position_or_len p xs) 0) (All-head (λ x. p x ≡ q x) x xs alike)
        ∙ ap (λ n. cond (not (q x)) (1 + n) 0) (by xs (All-tail (λ x. p x ≡ q x) x xs alike))
