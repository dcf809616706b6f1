-- What a map from numbers holds.
use Rattle.std.proofs.Common.{arith, ◌≡◌, ◌≢◌, ℕ, true, false, cond, eqb, Some, None, refl, ap, subst, ◌∙◌, ◌⊎◌}
use Rattle.std.proofs.lemmas.Bool.{cases_eq, eq-eqb, ne_eqb}
use Rattle.std.specs.Cmp.{nat_cmp_total, tied_itself}
use Rattle.std.specs.FinMap.{FinMap, get, insert, remove, get-insert, get-remove}
use Rattle.std.specs.Ordering.{eq_by_cmp, is_eq, nat_cmp}

tied : (q k : ℕ) → q ≡ k → eq_by_cmp nat_cmp q k ≡ true
tied q k is = let P : ℕ → Type 0 = λ n. eq_by_cmp nat_cmp q n ≡ true in subst P is (ap is_eq (tied_itself nat_cmp_total q))

apart : (q k : ℕ) → q ≢ k → eq_by_cmp nat_cmp q k ≡ false
apart q k other = grind arith

pub tie : (q k : ℕ) → eq_by_cmp nat_cmp q k ≡ eqb k q
tie q k = grind (arith, apart, cases_eq, eq-eqb, ne_eqb, tied)

module _ {X : Type 0} (m : FinMap nat_cmp X) (k : ℕ) where
  pub get_new : (v : X) → get (insert m k v) k ≡ Some v
  get_new v = get-insert nat_cmp_total m k v k ∙ ap (λ b. cond b (Some v) (get m k)) (tied k k refl)

  pub get_other : (v : X) (q : ℕ) → q ≢ k → get (insert m k v) q ≡ get m q
  get_other v q other = get-insert nat_cmp_total m k v q ∙ ap (λ b. cond b (Some v) (get m q)) (apart q k other)

  pub get_gone : (q : ℕ) → q ≡ k → get (remove m k) q ≡ None
  get_gone q is = get-remove nat_cmp_total m k q ∙ ap (λ b. cond b None (get m q)) (tied q k is)

  pub get_left : (q : ℕ) → q ≢ k → get (remove m k) q ≡ get m q
  get_left q other = get-remove nat_cmp_total m k q ∙ ap (λ b. cond b None (get m q)) (apart q k other)

  -- what is found after an insertion is the new one, or was there
  pub new_or_old : (v : X) (q : ℕ) (x : X) → get (insert m k v) q ≡ Some x → ((q ≡ k) × (v ≡ x)) ⊎ ((q ≢ k) × (get m q ≡ Some x))
  new_or_old v q x is = grind (arith, cases_eq, get_new, get_other)

  -- what is found after a removal was there before, under another number
  pub was_there : (q : ℕ) (x : X) → get (remove m k) q ≡ Some x → (q ≢ k) × (get m q ≡ Some x)
  was_there q x is = grind (arith, cases_eq, get_gone, get_left)
