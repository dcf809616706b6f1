-- What a search of a list finds.
use Rattle.std.proofs.Common.{◌≡◌, suc, Bool, true, false, cond, List, [], ◌∷◌, Option, Some, ◌⊎◌, inl, inr, refl, subst, arith}
use Rattle.std.specs.List.{find, Contains}

-- which way a choice went
chosen : {X : Type 0} (b : Bool) (y x : X) (r : Option X) → cond b (Some y) r ≡ Some x → ((b ≡ true) × (y ≡ x)) ⊎ ((b ≡ false) × (r ≡ Some x))
chosen true y x r e = inl (refl, cc)
chosen false y x r e = inr (refl, e)

-- it is an element, and passes the test
pub find_some : {X : Type 0} (test : X → Bool) (xs : List X) (x : X) → find test xs ≡ Some x → Contains xs x × (test x ≡ true)
find_some test [] x e = cc
find_some {X} test (y ∷ ys) x e = elim (chosen (test y) y x (find test ys) e) [
  | inl h ↦ ((0, omega arith, h.1), let P : X → Type 0 = λ z. test z ≡ true in subst P h.1 h.0)
  | inr h ↦ let f = find_some test ys x h.1 in ((suc f.0.0, omega (arith, f.0.1), f.0.2), f.1)
]
