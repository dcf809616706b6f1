-- The lowest of some lines that pass a test, and the test that a line is short of places.
use Rattle.std.proofs.Common.{◌≡◌, ℕ, ◌<◌, ◌≤◌, Bool, true, false, not, Some, None, List, [], ◌∷◌, filter, fold, length, refl, ap, sym, subst, ◌∙◌, inl, inr, arith}
use Rattle.std.specs.List.{reduce}
use Rattle.std.specs.Prelude.{min, nat_lt}
use Rattle.std.proofs.Math.Nat.{min-eq_left, min-eq_right}
use Rattle.std.proofs.lemmas.Bool.{and_from, and_parts, cases_lt, cond_both, false_from_ne_true, lt-ltb, not_from_false}
use Rattle.xp_outbox.specs.Ends.{Putting}
use Rattle.xp_step.specs.declared.output.Outgoing.{Outgoing}
use Rattle.xp_machine.specs.Channel.{is_off}
use Rattle.xp_step.specs.Exchange.{Exchange, world_of}
use Rattle.xp_machine.specs.World.{state_at}
use Rattle.xp_lock.specs.Outboxes.{PLACES_KEPT, outbox_at}
use Rattle.xp_lock.specs.steps.Stalling.{is_short}
use Rattle.xp_lock.proofs.Among.{Among}

fold_least : (a : ℕ) (xs : List ℕ) (y : ℕ) → Among (a ∷ xs) y → fold min a xs ≤ y
fold_least a [] y (inl same) = omega (arith, same)
fold_least a [] y (inr none) = absurd none
fold_least a (x ∷ xs) y (inl same) = omega (arith, same, fold_least (min a x) xs (min a x) (inl refl))
fold_least a (x ∷ xs) y (inr (inl same)) = omega (arith, same, fold_least (min a x) xs (min a x) (inl refl))
fold_least a (x ∷ xs) y (inr (inr rest)) = fold_least (min a x) xs y (inr rest)

fold_among : (a : ℕ) (xs : List ℕ) → Among (a ∷ xs) (fold min a xs)
fold_among a [] = inl refl
fold_among a (x ∷ xs) = elim (fold_among (min a x) xs) [
  | inl same ↦ grind (arith, cases_lt, min-eq_left, min-eq_right)
  | inr rest ↦ inr (inr rest)
]

module _ (p : ℕ → Bool) where
  passing : (xs : List ℕ) (y : ℕ) → Among xs y → p y ≡ true → Among (filter p xs) y
  passing [] y here passes = absurd here
  passing (x ∷ xs) y (inl same) passes = grind (arith, cond_both)
  passing (x ∷ xs) y (inr rest) passes =
      cond_both (p x) (x ∷ filter p xs) (filter p xs) (λ zs. Among zs y) (λ yes. inr (passing xs y rest passes)) (λ no. passing xs y rest passes)

  passes_from : (xs : List ℕ) (y : ℕ) → Among (filter p xs) y → Among xs y × (p y ≡ true)
  passes_from [] y here = absurd here
  passes_from (x ∷ xs) y there = cond_both (p x) (x ∷ filter p xs) (filter p xs) (λ zs. Among zs y → Among (x ∷ xs) y × (p y ≡ true))
      (λ yes here. elim here [ inl same ↦ (inl same, ap p same ∙ yes) | inr rest ↦ later (passes_from xs y rest) ]) (λ no here. later (passes_from xs y here)) there
    where
      later : Among xs y × (p y ≡ true) → Among (x ∷ xs) y × (p y ≡ true)
      later rest = (inr rest.0, rest.1)

  -- the lowest passes, and no lower one does
  pub record IsLowest (lines : List ℕ) (line : ℕ) : Type 0 where
    pub there : Among lines line
    pub passes : p line ≡ true
    pub least : (other : ℕ) → Among lines other → p other ≡ true → line ≤ other

  pub lowest_is : (lines : List ℕ) (line : ℕ) → Some line ≡ reduce min (filter p lines) → IsLowest lines line
  lowest_is lines line is = by (filter p lines) refl is where
    by : (found : List ℕ) → filter p lines ≡ found → Some line ≡ reduce min found → IsLowest lines line
    by [] are is = absurd (cc)
    by (x ∷ xs) are is =
        let same : line ≡ fold min x xs = cc in
        let here = passes_from lines line (subst (λ zs. Among zs line) (sym are) (subst (Among (x ∷ xs)) (sym same) (fold_among x xs))) in
        record {
          there = here.0;
          passes = here.1;
          least = λ other there passes. omega (arith, same, fold_least x xs other (subst (λ zs. Among zs other) are (passing lines other there passes)));
        }

  pub none_passes : (lines : List ℕ) → None ≡ reduce min (filter p lines) → (other : ℕ) → Among lines other → p other ≡ true → ⊥
  none_passes lines is other there passes = grind (arith, passing)

-- a line that is short of places
module _ {A : Type 0} (core : Exchange A) (outboxes : List (Putting (Outgoing A))) (line : ℕ) where
  abbrev lacks : Bool
  lacks = nat_lt (outbox_at outboxes line).free PLACES_KEPT

  abbrev serves : Bool
  serves = not (is_off (state_at (world_of core) line))

  pub short_parts : is_short core outboxes line ≡ true → (line < length outboxes) × ((outbox_at outboxes line).free < PLACES_KEPT) × (is_off (state_at (world_of core) line) ≡ false)
  short_parts is = grind (arith, and_parts, false_from_ne_true)

  pub short_from : line < length outboxes → (outbox_at outboxes line).free < PLACES_KEPT → is_off (state_at (world_of core) line) ≡ false → is_short core outboxes line ≡ true
  short_from there short on = grind (arith, and_from, lt-ltb, not_from_false)
