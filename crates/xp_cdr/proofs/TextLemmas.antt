-- The text of several items, and of the first of them.
use Rattle.std.proofs.Common.{◌≡◌, ℕ, ◌+◌, ◌-◌, ◌≤◌, List, ◌++◌, ap, arith, drop, flat_map, length, length-append, refl, sym, take, ◌∙◌}
use Rattle.std.proofs.lemmas.List.{drop-append-le, drop-take, drop_at, length-take-le, take-append-drop, take-take, take_at}
use Rattle.std.proofs.lemmas.List.Concat.{flat_map-append}

-- those from a place on are those up to a later one, and those behind
pub drop_apart : {X : Type 0} (xs : List X) (from to : ℕ) → from ≤ to → to ≤ length xs → drop from xs ≡ drop from (take to xs) ++ drop to xs
drop_apart xs from to behind within =
    ap (drop from) (sym (take-append-drop to xs))
    ∙ drop-append-le from (take to xs) (drop to xs) (omega (arith, behind, length-take-le to xs within))

-- the first of two lists
pub taken_back : {X : Type 0} (all first behind : List X) (n : ℕ) → all ≡ first ++ behind → n ≡ length first → take n all ≡ first
taken_back all first behind n are count = ap (take n) are ∙ take_at first behind n (sym count)

-- the octets between two places
pub between : {X : Type 0} (xs : List X) (from to : ℕ) → from ≤ to → take (to - from) (drop from xs) ≡ drop from (take to xs)
between xs from to behind =
    let same : from + (to - from) ≡ to = omega (arith, behind) in
    sym (drop-take from (to - from) xs) ∙ ap (λ n. drop from (take n xs)) same

-- and those up to a place are those up to an earlier one, and those between
pub take_apart : {X : Type 0} (xs : List X) (from to : ℕ) → from ≤ to → take to xs ≡ take from xs ++ drop from (take to xs)
take_apart xs from to behind =
    sym (take-append-drop from (take to xs)) ∙ ap (λ front. front ++ drop from (take to xs)) (take-take from to xs behind)

module _ {X : Type 0} (f : X → List ℕ) where
  text_apart : (xs : List X) (n : ℕ) → flat_map f xs ≡ flat_map f (take n xs) ++ flat_map f (drop n xs)
  text_apart xs n = sym (ap (flat_map f) (take-append-drop n xs)) ∙ flat_map-append f (take n xs) (drop n xs)

  -- the text of the first items, out of that of all
  pub text_taken : (xs : List X) (n : ℕ) → take (length (flat_map f (take n xs))) (flat_map f xs) ≡ flat_map f (take n xs)
  text_taken xs n =
      ap (take (length (flat_map f (take n xs)))) (text_apart xs n)
      ∙ take_at (flat_map f (take n xs)) (flat_map f (drop n xs)) (length (flat_map f (take n xs))) refl

  -- and that of the items behind
  pub text_left : (xs : List X) (n : ℕ) → drop (length (flat_map f (take n xs))) (flat_map f xs) ≡ flat_map f (drop n xs)
  text_left xs n =
      ap (drop (length (flat_map f (take n xs)))) (text_apart xs n)
      ∙ drop_at (flat_map f (take n xs)) (flat_map f (drop n xs)) (length (flat_map f (take n xs))) refl

  pub text_within : (xs : List X) (n : ℕ) → length (flat_map f (take n xs)) ≤ length (flat_map f xs)
  text_within xs n = omega (arith, ap length (text_apart xs n), length-append (flat_map f (take n xs)) (flat_map f (drop n xs)))

  module _ (xs : List X) (from to : ℕ) (behind : from ≤ to) where
    -- that of the items between two places
    pub text_between : drop (length (flat_map f (take from xs))) (flat_map f (take to xs)) ≡ flat_map f (drop from (take to xs))
    text_between =
        ap (λ front. drop (length (flat_map f front)) (flat_map f (take to xs))) (sym (take-take from to xs behind))
        ∙ text_left (take to xs) from

    pub text_order : length (flat_map f (take from xs)) ≤ length (flat_map f (take to xs))
    text_order = omega (arith, ap (λ front. length (flat_map f front)) (take-take from to xs behind), text_within (take to xs) from)
