-- The front of a list, and its last item.
use Rattle.std.proofs.Common.{arith, ◌≡◌, ℕ, ◌+◌, ◌<◌, ◌⊎◌, List, [], ◌∷◌, ◌++◌, length, take, get_or, refl, ap, ◌∙◌, inl, inr}
use Rattle.std.proofs.lemmas.List.{take_more}

module _ {X : Type 0} where
  -- the front of a list, copied item by item
  pub front_more : (items done : List X) (at : ℕ) (item next : X) → at < length items → done ≡ take at items
      → item ≡ get_or items at item → next ≡ item → done ++ next ∷ [] ≡ take (at + 1) items
  front_more items done at item next within is here same = grind (arith, take_more)

  -- a place of a list with one item more is in the list, or the last
  pub last_or_before : (items : List X) (item : X) (front : List X) (there : X) (rest : List X) → items ++ item ∷ [] ≡ front ++ there ∷ rest
      → ((more : List X) × (items ≡ front ++ there ∷ more)) ⊎ ((items ≡ front) × (item ≡ there))
  last_or_before [] item [] there rest is = inr (refl, cc)
  last_or_before [] item (first ∷ front) there rest is =
      let tails : [] ≡ front ++ there ∷ rest = cc in absurd (empty front tails) where
        empty : (list : List X) → [] ≡ list ++ there ∷ rest → ⊥
        empty [] same = absurd (cc)
        empty (x ∷ list) same = absurd (cc)
  last_or_before (x ∷ items) item [] there rest is = grind arith
  last_or_before (x ∷ items) item (first ∷ front) there rest is =
      let heads : x ≡ first = cc in
      let tails : items ++ item ∷ [] ≡ front ++ there ∷ rest = cc in
      elim (last_or_before items item front there rest tails) [
        | inl found ↦ inl (found.0, ap (λ y. y ∷ items) heads ∙ ap (λ list. first ∷ list) found.1)
        | inr last ↦ inr (ap (λ y. y ∷ items) heads ∙ ap (λ list. first ∷ list) last.0, last.1)
      ]
