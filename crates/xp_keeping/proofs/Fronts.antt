-- Texts of which a front is written.
use Rattle.std.proofs.Common.{◌≡◌, ℕ, ◌+◌, ◌<◌, List, [], ◌∷◌, ◌++◌, sym, ap, ◌∙◌, append_assoc, arith, drop, flat_map, get_or, length, take}
use Rattle.std.proofs.lemmas.Grind.{common_steps, flat_map-append}
use Rattle.xp_keeping.specs.Printing.{IsFront}

both_parts : {X : Type 0} (count : ℕ) (xs : List X) → xs ≡ take count xs ++ drop count xs
both_parts count xs = grind (arith, common_steps)

-- the first so many octets
pub front_of : (count : ℕ) (text : List ℕ) → IsFront (take count text) text
front_of count text = (drop count text, both_parts count text)

-- a front of the second of two texts, behind the first
pub front_behind : (first front second rest : List ℕ) → IsFront front second → IsFront (first ++ front) ((first ++ second) ++ rest)
front_behind first front second rest is =
    (is.0 ++ rest, ap (λ text. (first ++ text) ++ rest) is.1 ∙ ap (λ text. text ++ rest) (sym (append_assoc first front is.0)) ∙ append_assoc (first ++ front) is.0 rest)

-- the first of two texts, and a front of the second
pub front_after : (first front second : List ℕ) → IsFront front second → IsFront (first ++ front) (first ++ second)
front_after first front second is = (is.0, ap (λ text. first ++ text) is.1 ∙ sym (append_assoc first front is.0))

module _ {X : Type 0} (f : X → List ℕ) (xs : List X) (i : ℕ) (x : X) (within : i < length xs) (is : x ≡ get_or xs i x) where
  -- one item more
  pub one_more : flat_map f (take (i + 1) xs) ≡ flat_map f (take i xs) ++ f x
  one_more =
      let longer : take (i + 1) xs ≡ take i xs ++ x ∷ [] = grind (arith, common_steps) in
      rw (longer, flat_map-append f (take i xs) (x ∷ [])) (grind (arith, common_steps))

  -- the items before it, it, and those behind it
  pub around : flat_map f xs ≡ (flat_map f (take i xs) ++ f x) ++ flat_map f (drop (i + 1) xs)
  around = ap (flat_map f) (both_parts (i + 1) xs) ∙ flat_map-append f (take (i + 1) xs) (drop (i + 1) xs) ∙ ap (λ text. text ++ flat_map f (drop (i + 1) xs)) one_more
