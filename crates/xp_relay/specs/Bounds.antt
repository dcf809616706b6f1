-- What a received P(R) stands for, and how many moves one packet leads to.
use Rattle.std.specs.Prelude.{◌≡◌, ℕ, ◌+◌, ◌%◌, ◌≤◌, List, length, max, MatchOption}
use Rattle.xp_packets.specs.Numbers.{numbers}
use Rattle.xp_relay.specs.declared.terms.Terms.{Terms}
use Rattle.xp_relay.specs.Coupled.{coupled}
use Rattle.xp_relay.specs.Direction.{Direction, IsSound, acknowledged_count}
use Rattle.xp_relay.specs.Runs.{Arrival, run, turn_on}
use Rattle.xp_relay.specs.Terms.{IsWithinTerms}

-- A count with this number. It is no less than what the receiver acknowledged before, and no more than what it was sent
-- (X.25 clause 4.4.1.3).
pub record IsCount {A : Type 0} (number : ℕ) (d : Direction A) (count : ℕ) : Type 0 where
  pub least : d.acknowledged ≤ count
  pub most : count ≤ d.put
  pub numbered : count % numbers d.terms.receiver ≡ number

-- there is one such count, and no other
pub record IsTheCount {A : Type 0} (number : ℕ) (d : Direction A) (count : ℕ) : Type 0 where
  pub is : IsCount number d count
  pub only : (other : ℕ) → IsCount number d other → other ≡ count

-- A P(R) is valid if it is the number of exactly one such count, and then it stands for that count. Else it stands for
-- none, and no such count has this number.
abbrev pub StandsForTheCount : (A : Type 0) → Type 0
StandsForTheCount A =
    (d : Direction A) (number : ℕ) → IsSound d →
    MatchOption (acknowledged_count number d) ((count : ℕ) → IsCount number d count → ⊥) (λ count. IsTheCount number d count)

-- after any packets, one more leads to no more moves than a window and two
abbrev pub PutsOutFew : (A : Type 0) → Type 0
PutsOutFew A =
    (terms : Terms) → IsWithinTerms terms → (arrivals : List (Arrival A)) (arrival : Arrival A) →
    length (turn_on (run (coupled {A = A} terms) arrivals) arrival).moves ≤ max terms.from_caller.window terms.from_called.window + 2
