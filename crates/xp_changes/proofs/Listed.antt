-- A list of numbers that leaves none out, as it grows.
use Rattle.std.proofs.Common.{◌≡◌, ◌<◌, ◌+◌, ℕ, List, [], ◌∷◌, ◌++◌, inl, inr, Contains, subst, sym, arith}
use Rattle.std.proofs.lemmas.Bool.{cases_lt}
use Rattle.std.proofs.lemmas.List.Elements.{All-get_or, All-nil, All-push, All-weaker, Contains-append_left, Contains-push}
use Rattle.std.proofs.lemmas.List.Quantifiers.{all_pairs_push}
use Rattle.xp_changes.specs.Numbers.{AreAllOf}

pub none_yet : (holds : ℕ → Type 0) → AreAllOf holds 0 []
none_yet holds = record {
  within = All-nil _;
  hold = All-nil _;
  all = λ number within held. absurd (omega (arith, within));
  ascending = λ i j d before within. absurd (omega (arith, within));
}

module _ (holds : ℕ → Type 0) (count : ℕ) (numbers : List ℕ) (are : AreAllOf holds count numbers) where
  -- it holds of the next number too
  pub one_more : holds count → AreAllOf holds (count + 1) (numbers ++ count ∷ [])
  one_more held = record {
    within = All-push (λ number. number < count + 1) numbers count (All-weaker (λ number. number < count) (λ number. number < count + 1) (λ number below. omega arith) numbers are.within) (omega arith);
    hold = All-push holds numbers count are.hold held;
    all = λ number within held. elim (cases_lt number count) [
      | inl below ↦ Contains-append_left numbers (count ∷ []) number (are.all number below held)
      | inr past ↦
          let same : count ≡ number = omega (arith, past, within) in
          subst (λ number. Contains (numbers ++ count ∷ []) number) same (Contains-push numbers count)
    ];
    ascending =
        all_pairs_push (λ one other. one < other) numbers count are.ascending
        (λ k d within. All-get_or (λ number. number < count) numbers k d within are.within);
  }

  -- it does not
  pub none_more : (holds count → ⊥) → AreAllOf holds (count + 1) numbers
  none_more not = record {
    within = All-weaker (λ number. number < count) (λ number. number < count + 1) (λ number below. omega arith) numbers are.within;
    hold = are.hold;
    all = λ number within held. elim (cases_lt number count) [
      | inl below ↦ are.all number below held
      | inr past ↦
          let is : count ≡ number = omega (arith, past, within) in
          absurd (not (subst holds (sym is) held))
    ];
    ascending = are.ascending;
  }
