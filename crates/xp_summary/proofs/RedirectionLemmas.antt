-- Where redirections lead.
use Rattle.std.proofs.Common.{◌≡◌, ℕ, zero, suc, ◌≤◌, ◌<◌, Option, None, Some, inl, inr, sym, ◌∙◌, ap, subst, arith}
use Rattle.std.proofs.Math.Nat.{eq-or-lt_of_le}
use Rattle.std.proofs.lemmas.Bool.{cases_lt}
use Rattle.xp_subs.specs.Tables.{Tables}
use Rattle.xp_summary.specs.Redirections.{next_station, next_if_any, station_after}

-- where they lead nowhere, more of them lead nowhere
pub none_beyond : (tables : Tables) (station steps later : ℕ) → station_after tables station steps ≡ None → steps ≤ later → station_after tables station later ≡ None
none_beyond tables station steps zero e le =
    let P : ℕ → Type 0 = λ n. station_after tables station n ≡ None in
    let same : steps ≡ zero = omega (arith, le) in
    subst P same e
none_beyond tables station steps (suc later) e le =
    let P : ℕ → Type 0 = λ n. station_after tables station n ≡ None in
    elim (eq-or-lt_of_le le) [
      | inl same ↦ subst P same e
      | inr lt ↦ ap (next_if_any tables) (none_beyond tables station steps later e (omega (arith, lt)))
    ]

-- one redirection more
pub one_further : (tables : Tables) (station steps reached : ℕ) → station_after tables station steps ≡ Some reached
    → station_after tables station (suc steps) ≡ next_station tables reached
one_further tables station steps reached e = ap (next_if_any tables) e

-- a way that ends after so many redirections, and has not come back before, never comes back
pub never_back : (tables : Tables) (station steps reached : ℕ) → station_after tables station steps ≡ Some reached → next_station tables reached ≡ None
    → ((before : ℕ) → before < steps → station_after tables station (suc before) ≡ Some station → ⊥)
    → (later : ℕ) → station_after tables station (suc later) ≡ Some station → ⊥
never_back tables station steps reached at ends none later back = elim (cases_lt later steps) [
  | inl lt ↦ none later lt back
  | inr le ↦
      let gone : station_after tables station (suc steps) ≡ None = one_further tables station steps reached at ∙ ends in
      let e : ◌≡◌ {A = Option ℕ} None (Some station) = sym (none_beyond tables station (suc steps) (suc later) gone (omega (arith, le))) ∙ back in
      cc
]
