-- Changes that connect no call need no relay.
use Rattle.std.proofs.Common.{arith, ◌≡◌, ℕ, Option, None, [], ◌∷◌}
use Rattle.xp_subs.specs.Tables.{Tables}
use Rattle.xp_step.specs.declared.outcome.Outcome.{Outcome}
use Rattle.xp_machine.specs.declared.relays.RelayUpdate.{RelayUpdate}
use Rattle.xp_machine.specs.Changes.{NoCallState}
use Rattle.xp_step.specs.Effects.{collides, leaves, requests}
use Rattle.xp_step.specs.Relays.{RelaysFor}
use Rattle.xp_step.specs.Table.{CallRequest}
use Rattle.xp_machine.specs.World.{Call}

module _ {A : Type 0} (tables : Tables) (line : ℕ) where
  pub leaves_quiet : (way : NoCallState) (cause diagnostic : ℕ) (found : Option (ℕ × Call)) (relay_update : Option (RelayUpdate A)) → relay_update ≡ None
      → RelaysFor tables (leaves line way cause diagnostic found ∷ []) relay_update
  leaves_quiet way cause diagnostic found relay_update one = grind arith

  pub requests_quiet : (moment : ℕ) (asked : Option (CallRequest A)) (outcome : Outcome) (relay_update : Option (RelayUpdate A)) → relay_update ≡ None
      → RelaysFor tables (requests line moment asked outcome) relay_update
  requests_quiet moment asked outcome relay_update one = grind arith

  pub collides_quiet : (moment : ℕ) (asked : Option (CallRequest A)) (found : Option (ℕ × Call)) (outcome : Outcome) (relay_update : Option (RelayUpdate A)) → relay_update ≡ None
      → RelaysFor tables (collides line moment asked found outcome) relay_update
  collides_quiet moment asked found outcome relay_update one = grind (arith, requests_quiet)
