-- Lines that are among others, and how many there can be.
use Rattle.std.proofs.Common.{◌≡◌, ◌≢◌, ◌⊎◌, ℕ, suc, ◌≤◌, true, false, true≢false, List, [], ◌∷◌, ◌++◌, length, refl, ap, sym, subst, ◌∙◌, inl, inr, arith}
use Rattle.std.proofs.lemmas.Bool.{cases_Bool, eq-eqb, eqb-true, false_from_ne_true, or_cases, or_left, or_right}
use Rattle.xp_lock.specs.Given.{AreApart}
use Rattle.xp_lock.specs.Given.{is_among}

abbrev pub Among : List ℕ → ℕ → Type 0
Among [] line = ⊥
Among (x ∷ xs) line = (line ≡ x) ⊎ Among xs line

pub among_is : (lines : List ℕ) (line : ℕ) → is_among line lines ≡ true → Among lines line
among_is [] line is = absurd (cc)
among_is (x ∷ lines) line is = elim (or_cases _ _ is) [ inl same ↦ inl (sym (eqb-true x line same)) | inr rest ↦ inr (among_is lines line rest) ]

pub is_from : (lines : List ℕ) (line : ℕ) → Among lines line → is_among line lines ≡ true
is_from [] line here = absurd here
is_from (x ∷ lines) line (inl same) = or_left _ _ (eq-eqb x line (sym same))
is_from (x ∷ lines) line (inr rest) = or_right _ _ (is_from lines line rest)

not_among : (lines : List ℕ) (line : ℕ) → is_among line lines ≡ false → Among lines line → ⊥
not_among lines line out here = true≢false (sym (is_from lines line here) ∙ out)

pub among_or_not : (lines : List ℕ) (line : ℕ) → Among lines line ⊎ (Among lines line → ⊥)
among_or_not lines line = elim (cases_Bool (is_among line lines)) [ inl here ↦ inl (among_is lines line here) | inr out ↦ inr (not_among lines line out) ]

-- ---- one line more

pub push_cases : (lines : List ℕ) (line other : ℕ) → Among (lines ++ line ∷ []) other → Among lines other ⊎ (other ≡ line)
push_cases [] line other (inl same) = inr same
push_cases [] line other (inr none) = absurd none
push_cases (x ∷ lines) line other (inl same) = inl (inl same)
push_cases (x ∷ lines) line other (inr rest) = elim (push_cases lines line other rest) [ inl here ↦ inl (inr here) | inr same ↦ inr same ]

pub push_old : (lines : List ℕ) (line other : ℕ) → Among lines other → Among (lines ++ line ∷ []) other
push_old [] line other here = absurd here
push_old (x ∷ lines) line other (inl same) = inl same
push_old (x ∷ lines) line other (inr rest) = inr (push_old lines line other rest)

pub push_new : (lines : List ℕ) (line : ℕ) → Among (lines ++ line ∷ []) line
push_new [] line = inl refl
push_new (x ∷ lines) line = inr (push_new lines line)

pub apart_push : (lines : List ℕ) (line : ℕ) → AreApart lines → is_among line lines ≡ false → AreApart (lines ++ line ∷ [])
apart_push [] line apart out = (refl, tt)
apart_push (x ∷ lines) line apart out = (
  false_from_ne_true _ (λ here. elim (push_cases lines line x (among_is (lines ++ line ∷ []) x here)) [
    | inl old ↦ not_among lines x apart.0 old
    | inr same ↦ not_among (x ∷ lines) line out (inl (sym same))
  ]),
  apart_push lines line apart.1 (false_from_ne_true _ (λ here. not_among (x ∷ lines) line out (inr (among_is lines line here)))),
)

-- ---- all but one

pub without : (lines : List ℕ) (line : ℕ) → Among lines line
    → (rest : List ℕ) × (length lines ≡ suc (length rest)) × ((other : ℕ) → other ≢ line → Among lines other → Among rest other)
without [] line here = absurd here
without (x ∷ lines) line (inl same) = (lines, refl, λ other apart there. elim there [ inl is ↦ absurd (apart (is ∙ sym same)) | inr rest ↦ rest ])
without (x ∷ lines) line (inr here) =
    let r = without lines line here in
    (x ∷ r.0, ap suc r.1, λ other apart there. elim there [ inl is ↦ inl is | inr rest ↦ inr (r.2 other apart rest) ])

-- lines that are all among others are no more than those
pub no_more_than : (lines others : List ℕ) → AreApart lines → ((line : ℕ) → Among lines line → Among others line) → length lines ≤ length others
no_more_than [] others apart all = omega arith
no_more_than (x ∷ lines) others apart all =
    let r = without others x (all x (inl refl)) in
    let rest = no_more_than lines r.0 apart.1 (λ line here. r.2 line (λ same. not_among lines x apart.0 (subst (Among lines) same here)) (all line (inr here))) in
    let count = r.1 in
    omega (arith, rest, count)
