-- Lists in which no value stands twice.
use Rattle.std.proofs.Common.{◌≡◌, zero, suc, List, [], ◌∷◌, ◌++◌, Bool, true, false, ◌⊎◌, inl, inr, Contains, take, drop, refl, sym, ap, ◌∙◌, subst, arith}
use Rattle.std.specs.List.{IsDistinct, AllByRecursion}
use Rattle.std.proofs.Math.Seq.{split_at}
use Rattle.std.proofs.lemmas.Map.Keys.{IsDistinct-head, IsDistinct-tail}
use Rattle.xp_subs.specs.UsedValues.{Once}

module _ {A : Type 0} where
  pub in_none : (x : A) → Contains [] x → ⊥
  in_none x (k, within, is) = absurd (omega arith)

  pub in_front : (x : A) (xs : List A) → Contains (x ∷ xs) x
  in_front x xs = (0, omega arith, refl)

  pub in_rest : (x y : A) (xs : List A) → Contains xs y → Contains (x ∷ xs) y
  in_rest x y xs (k, within, is) = (suc k, omega arith, is)

  pub in_cases : (x y : A) (xs : List A) → Contains (x ∷ xs) y → (x ≡ y) ⊎ Contains xs y
  in_cases x y xs (zero, within, is) = inl is
  in_cases x y xs (suc k, within, is) = inr (k, omega arith, is)

  pub in_left : (xs ys : List A) (x : A) → Contains xs x → Contains (xs ++ ys) x
  in_left [] ys x here = absurd (in_none x here)
  in_left (y ∷ xs) ys x here = elim (in_cases y x xs here) [
    | inl is ↦ let P : A → Type 0 = λ z. Contains (y ∷ (xs ++ ys)) z in subst P is (in_front y (xs ++ ys))
    | inr rest ↦ in_rest y x (xs ++ ys) (in_left xs ys x rest)
  ]

  pub in_right : (xs ys : List A) (x : A) → Contains ys x → Contains (xs ++ ys) x
  in_right [] ys x here = here
  in_right (y ∷ xs) ys x here = in_rest y x (xs ++ ys) (in_right xs ys x here)

  pub in_parts : (xs ys : List A) (x : A) → Contains (xs ++ ys) x → Contains xs x ⊎ Contains ys x
  in_parts [] ys x here = inr here
  in_parts (y ∷ xs) ys x here = elim (in_cases y x (xs ++ ys) here) [
    | inl is ↦ inl (let P : A → Type 0 = λ z. Contains (y ∷ xs) z in subst P is (in_front y xs))
    | inr rest ↦ elim (in_parts xs ys x rest) [
      | inl left ↦ inl (in_rest y x xs left)
      | inr right ↦ inr right
    ]
  ]

  no_cons : (x : A) (xs before : List A) → [] ≡ before ++ x ∷ xs → ⊥
  no_cons x xs [] e = cc
  no_cons x xs (y ∷ before) e = cc

  pub once_none : Once {A = A} []
  once_none before x after e again = no_cons x after before e

  pub once_head : (x : A) (xs : List A) → Once (x ∷ xs) → Contains xs x → ⊥
  once_head x xs once (k, within, is) =
      once (x ∷ take k xs) x (drop (suc k) xs) (ap (λ l. x ∷ l) (split_at xs k x within ∙ ap (λ y. take k xs ++ y ∷ drop (suc k) xs) is)) (in_front x (take k xs))

  pub once_tail : (x : A) (xs : List A) → Once (x ∷ xs) → Once xs
  once_tail x xs once before y after e again = once (x ∷ before) y after (ap (λ l. x ∷ l) e) (in_rest x y before again)

  pub once_cons : (x : A) (xs : List A) → (Contains xs x → ⊥) → Once xs → Once (x ∷ xs)
  once_cons x xs new once [] y after e again = in_none y again
  once_cons x xs new once (b ∷ before) y after e again = by (in_cases b y before again)
    where
      first : x ≡ b
      first = cc

      rest : xs ≡ before ++ y ∷ after
      rest = cc

      by : (b ≡ y) ⊎ Contains before y → ⊥
      by (inl is) = new (subst (Contains xs) (sym (first ∙ is)) (subst (λ l. Contains l y) (sym rest) (in_right before (y ∷ after) y (in_front y after))))
      by (inr more) = once before y after rest more

  pub once_push : (xs : List A) (x : A) → Once xs → (Contains xs x → ⊥) → Once (xs ++ x ∷ [])
  once_push [] x once new = once_cons x [] new once
  once_push (y ∷ xs) x once new =
      once_cons y (xs ++ x ∷ []) (λ here. by (in_parts xs (x ∷ []) y here)) (once_push xs x (once_tail y xs once) (λ here. new (in_rest y x xs here)))
    where
      last : (x ≡ y) ⊎ Contains [] y → ⊥
      last (inl is) = new (subst (Contains (y ∷ xs)) (sym is) (in_front y xs))
      last (inr here) = in_none y here

      by : Contains xs y ⊎ Contains (x ∷ []) y → ⊥
      by (inl here) = once_head y xs once here
      by (inr here) = last (in_cases x y [] here)

  -- by a test that passes for equal values
  module _ (equal : A → A → Bool) (alike : (x : A) → equal x x ≡ true) where
    none_passes : (x : A) (ys : List A) → AllByRecursion (λ y. equal x y ≡ false) ys → Contains ys x → ⊥
    none_passes x [] all here = in_none x here
    none_passes x (y ∷ ys) all here = elim (in_cases y x ys here) [
      | inl is ↦ let yes : equal x y ≡ true = ap (equal x) is ∙ alike x in let no : equal x y ≡ false = all.0 in let never : true ≡ false = sym yes ∙ no in cc
      | inr rest ↦ none_passes x ys all.1 rest
    ]

    pub once_distinct : (xs : List A) → IsDistinct equal xs → Once xs
    once_distinct [] apart = once_none
    once_distinct (x ∷ xs) apart =
        once_cons x xs (λ here. none_passes x xs (IsDistinct-head equal x xs apart) here) (once_distinct xs (IsDistinct-tail equal x xs apart))
