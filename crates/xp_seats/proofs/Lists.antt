-- Lists of views, and of what a line handed in.
use Rattle.std.proofs.Common.{arith, ◌≡◌, ◌≢◌, ℕ, zero, suc, List, [], ◌∷◌, ◌++◌, length, set, sym, refl, ap, inl, inr, ◌⊎◌, ⊎_elim}
use Rattle.std.proofs.lemmas.List.Elements.{filter-append}
use mathlib.Core.Option.{some, some-injective, some-ne-none}
use lib.ListN.{get_elem?}
use Rattle.atomic_table.proofs.Lists.{at_set}
use Rattle.xp_step.specs.declared.entry.Entry.{Entry}
use Rattle.xp_seats.specs.Handed.{handed, is_from}

module _ {X : Type 0} where
  pub at_new : (l : List X) (a b : X) (j : ℕ) → get_elem? (l ++ a ∷ []) j ≡ some b → (get_elem? l j ≡ some b) ⊎ ((j ≡ length l) × (a ≡ b))
  at_new [] a b zero e = inr (refl, some-injective a b e)
  at_new [] a b (suc j) e = absurd (some-ne-none b (sym e))
  at_new (x ∷ xs) a b zero e = inl e
  at_new (x ∷ xs) a b (suc j) e = ⊎_elim (λ t. inl t) (λ t. inr (ap suc t.0, t.1)) (at_new xs a b j e)

  abbrev pub Each : (ℕ → X → Type 0) → List X → Type 0
  Each F xs = (at : ℕ) (x : X) → get_elem? xs at ≡ some x → F at x

  -- after a write, of the one written and of all others
  pub each_set : (F : ℕ → X → Type 0) (xs : List X) (at : ℕ) (x : X) → F at x → ((j : ℕ) (y : X) → j ≢ at → get_elem? xs j ≡ some y → F j y) → Each F (set xs at x)
  each_set F xs at x own_entries others j y e = grind (arith, at_set)

  -- after one more was put last
  pub each_new : (F : ℕ → X → Type 0) (xs : List X) (x : X) → F (length xs) x → Each F xs → Each F (xs ++ x ∷ [])
  each_new F xs x own_entries others j y e = grind (arith, at_new)

module _ {A : Type 0} where
  pub handed-append : (line : ℕ) (xs ys : List (Entry A)) → handed line (xs ++ ys) ≡ handed line xs ++ handed line ys
  handed-append line xs ys = filter-append (is_from line) xs ys
