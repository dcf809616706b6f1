-- The state of flow control that is seen of a line.
use Rattle.std.proofs.Common.{arith, ◌≡◌, ◌∙◌, ℕ, Option, Some, None, option_map, List, ap, sym, subst}
use Rattle.xp_relay.specs.Coupled.{Coupled, state_at}
use Rattle.xp_relay.specs.StoredCoupled.{RepresentsCall}
use Rattle.xp_relay.specs.declared.state.FlowState.{FlowState}
use Rattle.xp_subs.specs.Tables.{Tables}
use Rattle.xp_machine.specs.declared.call.LiveCall.{LiveCall}
use Rattle.xp_step.specs.declared.entry.Entry.{Entry}
use Rattle.xp_machine.specs.declared.agreement.Agreement.{Agreement}
use Rattle.xp_machine.specs.declared.relays.MeteredRelay.{MeteredRelay}
use Rattle.xp_step.specs.RelayedPackets.{directions}
use Rattle.xp_machine.specs.CallEnds.{end_of}
use Rattle.xp_machine.specs.StoredState.{call_of_stored, entry_of}
use Rattle.xp_step.specs.Relays.{RelaysRepresentCalls, IsRepresentedBy, counted_by}
use Rattle.xp_machine.specs.Relays.{relay_under}
use Rattle.xp_core.specs.View.{flow_at, flow_in}
use Rattle.xp_machine.specs.World.{World, call_on}
use Rattle.xp_machine.proofs.InCall.{shown_on}

module _ {A : Type 0} (tables : Tables) (history : List (Entry A)) (world : World) (line : ℕ) where
  pub in_no_call : None ≡ call_on world line → None ≡ flow_at tables history world line
  in_no_call is = ap (flow_in tables history line) is

  module _ (call : LiveCall) (on : Some (entry_of call) ≡ call_on world line) where
    abbrev its : Agreement → FlowState
    its agreement = state_at (end_of (call_of_stored call) line) (directions tables history call.number (call_of_stored call) agreement)

    seen : option_map its call.agreed ≡ flow_at tables history world line
    seen = ap (flow_in tables history line) on

    pub unconnected : None ≡ call.agreed → None ≡ flow_at tables history world line
    unconnected none = ap (option_map its) none ∙ seen

    module _ (agreement : Agreement) (agreed : Some agreement ≡ call.agreed) (relays : List (Option (MeteredRelay A))) (carried : RelaysRepresentCalls tables history world relays) where
      is_kept : IsRepresentedBy (relay_under relays call.caller) (directions tables history call.number (call_of_stored call) agreement) (counted_by tables history call.number (call_of_stored call) (Some agreement))
      is_kept = carried call.number (call_of_stored call) agreement (shown_on world line (entry_of call) (sym on)).1 (sym agreed)

      pub never_lost : None ≡ relay_under relays call.caller → ⊥
      never_lost none = let P : Option (MeteredRelay A) → Type 0 = λ r. IsRepresentedBy r (directions tables history call.number (call_of_stored call) agreement) (counted_by tables history call.number (call_of_stored call) (Some agreement)) in subst P (sym none) is_kept

      pub connected : (kept : MeteredRelay A) (state : FlowState) → Some kept ≡ relay_under relays call.caller
          → ((shown : Coupled A) → RepresentsCall kept.relay shown → state ≡ state_at (end_of (call_of_stored call) line) shown)
          → Some state ≡ flow_at tables history world line
      connected kept state under is = grind (arith, is_kept, seen)
