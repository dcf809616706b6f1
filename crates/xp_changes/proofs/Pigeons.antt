-- There are more numbers below n + 1 than below n.
use Rattle.std.proofs.Common.{◌≡◌, ◌∙◌, ◌<◌, ◌+◌, ℕ, zero, suc, Bool, true, false, refl, sym, inl, inr, arith, nat_eq}
use Rattle.std.proofs.lemmas.Bool.{cases_lt}
use Rattle.std.proofs.lemmas.Bool.Decides.{nat_tests}

-- the one or the other
pick : Bool → ℕ → ℕ → ℕ
pick true one other = one
pick false one other = other

pub eq_of : (a b : ℕ) → nat_eq a b ≡ true → a ≡ b
eq_of a b e = grind (arith, nat_tests)

pub ne_of : (a b : ℕ) → nat_eq a b ≡ false → a ≡ b → ⊥
ne_of a b e = grind (arith, nat_tests)

pub less : (a n : ℕ) → a < suc n → (a ≡ n → ⊥) → a < n
less a n bound not = elim (cases_lt a n) [ inl is ↦ is | inr past ↦ absurd (not (omega (arith, past, bound))) ]

-- so many numbers that are all different are not below one less
pub pigeon : (n : ℕ) (g : ℕ → ℕ) → ((i : ℕ) → i < n + 1 → g i < n) → ((i j : ℕ) → i < n + 1 → j < n + 1 → g i ≡ g j → i ≡ j) → ⊥
unfolding pick
pigeon zero g below apart = let b = below 0 (omega arith) in absurd (omega (arith, b))
pigeon (suc n) g below apart =
    let last : ℕ = g (suc n) in
    let h : ℕ → ℕ = λ i. pick (nat_eq (g i) n) last (g i) in
    pigeon n h (λ i within. below_h i within (nat_eq (g i) n) refl) (λ i j i_within j_within. apart_h i j i_within j_within (nat_eq (g i) n) refl (nat_eq (g j) n) refl)
  where
    below_h : (i : ℕ) → i < n + 1 → (is : Bool) → nat_eq (g i) n ≡ is → pick is (g (suc n)) (g i) < n
    below_h i within true e =
        let at : g i ≡ n = eq_of (g i) n e in
        let bound : g (suc n) < suc n = below (suc n) (omega arith) in
        let not : g (suc n) ≡ n → ⊥ = λ same. let eq : i ≡ suc n = apart i (suc n) (omega (arith, within)) (omega arith) (at ∙ sym same) in absurd (omega (arith, eq, within)) in
        less (g (suc n)) n bound not
    below_h i within false e = less (g i) n (below i (omega (arith, within))) (ne_of (g i) n e)

    apart_h : (i j : ℕ) → i < n + 1 → j < n + 1 → (one : Bool) → nat_eq (g i) n ≡ one → (other : Bool) → nat_eq (g j) n ≡ other
        → pick one (g (suc n)) (g i) ≡ pick other (g (suc n)) (g j) → i ≡ j
    apart_h i j wi wj true e true f same = apart i j (omega (arith, wi)) (omega (arith, wj)) (eq_of (g i) n e ∙ sym (eq_of (g j) n f))
    apart_h i j wi wj true e false f same = let eq : suc n ≡ j = apart (suc n) j (omega arith) (omega (arith, wj)) same in absurd (omega (arith, eq, wj))
    apart_h i j wi wj false e true f same = let eq : i ≡ suc n = apart i (suc n) (omega (arith, wi)) (omega arith) same in absurd (omega (arith, eq, wi))
    apart_h i j wi wj false e false f same = apart i j (omega (arith, wi)) (omega (arith, wj)) same
