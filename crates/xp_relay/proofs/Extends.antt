-- A run that one more packet extends.
use Rattle.std.proofs.Common.{◌≡◌, ◌≤◌, List, [], ◌∷◌, ◌++◌, length, refl, arith}
use Rattle.xp_relay.specs.declared.terms.Terms.{Terms}
use Rattle.xp_relay.specs.Coupled.{Coupled, after, coupled}
use Rattle.xp_relay.specs.Runs.{Arrival, run, turn_on}
use Rattle.xp_relay.specs.Terms.{IsWithinTerms}
use Rattle.xp_relay.proofs.Few.{puts_out_few}

module _ {A : Type 0} where
  -- the last packet of a run takes on the call that the others led to
  pub run_more : (call : Coupled A) (arrivals : List (Arrival A)) (arrival : Arrival A) → run call (arrivals ++ arrival ∷ []) ≡ after arrival.here (turn_on (run call arrivals) arrival)
  run_more call [] arrival = refl
  run_more call (first ∷ rest) arrival = run_more (after first.here (turn_on call first)) rest arrival

  -- a window is at most 15, so no turn of a run has more than 17 moves
  pub most_moves : (terms : Terms) → IsWithinTerms terms → (arrivals : List (Arrival A)) (arrival : Arrival A) → length (turn_on (run (coupled terms) arrivals) arrival).moves ≤ 17
  most_moves terms within arrivals arrival =
      omega (arith, puts_out_few terms within arrivals arrival, within.from_caller.most_window, within.from_called.most_window)
