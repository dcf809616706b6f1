-- A line leaves the call that it is found in.
use Rattle.std.proofs.Common.{arith, ◌≡◌, ℕ, is_none, false, option_to_list, Option, Some, None, List, [], ◌∷◌, ◌++◌, append-nil, ap, sym, subst}
use Rattle.xp_charge.specs.Meter.{counted_from, opening}
use Rattle.xp_charge.specs.FarEnd.{far_end as other_end}
use Rattle.xp_charge.specs.declared.record.Record.{Record}
use Rattle.xp_facilities.specs.declared.charging_information.ChargingInformation.{ChargingInformation}
use Rattle.xp_subs.specs.Tables.{Tables}
use Rattle.xp_machine.specs.declared.call.LiveCall.{LiveCall}
use Rattle.xp_machine.specs.declared.change.Change.TheVariants as kept
use Rattle.xp_machine.specs.declared.change.NoCallState.{NoCallState}
use Rattle.xp_step.specs.declared.entry.Entry.{Entry}
use Rattle.xp_step.specs.declared.outcome.Outcome.TheVariants.{Plain}
use Rattle.xp_step.specs.declared.output.Output.{Output}
use Rattle.xp_step.specs.declared.plan.Plan.{Plan}
use Rattle.xp_step.specs.declared.plan.event_line.MeteredCall.{MeteredCall}
use Rattle.xp_step.specs.declared.plan.event_line.Withdrawal.{Withdrawal}
use Rattle.xp_machine.specs.declared.relays.MeteredRelay.{MeteredRelay}
use Rattle.xp_step.specs.RelayedPackets.{directions}
use Rattle.xp_machine.specs.CallEnds.{end_of}
use Rattle.xp_machine.specs.Changes.{Change}
use Rattle.xp_machine.specs.Clearing.{record_of}
use Rattle.xp_step.specs.Effects.{leaves}
use Rattle.xp_step.specs.EventLine.{IsMeteredCall}
use Rattle.xp_machine.specs.StoredState.{call_of_stored, entry_of, no_call_state_of}
use Rattle.xp_step.specs.Plan.{IsWithdrawal}
use Rattle.xp_step.specs.steps.Branches.{IsPlainPlan}
use Rattle.xp_step.specs.Relays.{RelaysRepresentCalls, IsRepresentedBy, counted_by}
use Rattle.xp_machine.specs.Relays.{relay_under}
use Rattle.xp_machine.specs.Information.{information_for}
use Rattle.xp_step.specs.Segments.{segments_of}
use Rattle.xp_step.specs.StepContext.{StepContext}
use Rattle.xp_step.specs.EventOutputs.{EventOutputs, far_information, own_information}
use Rattle.xp_machine.specs.World.{Call, World, call_numbered, call_on}
use Rattle.xp_step.proofs.Carrying.{some_of}
use Rattle.xp_step.proofs.Counting.{counted_here}

module _ {A : Type 0} where
  -- ---- the meter of a live call

  module _ (tables : Tables) (before : List (Entry A)) (call : LiveCall) where
    pub meter_of_none : call.agreed ≡ None → opening tables.segment_limit ≡ counted_by tables before call.number (call_of_stored call) call.agreed
    meter_of_none none = ap (counted_by tables before call.number (call_of_stored call)) (sym none)

    module _ (world : World) (relays : List (Option (MeteredRelay A))) (carried : RelaysRepresentCalls tables before world relays) (live : call_numbered world call.number ≡ Some (call_of_stored call))
        (some : is_none call.agreed ≡ false) where
      abbrev Shows : Option (MeteredRelay A) → Type 0
      Shows r =
          let agreement = (some_of call.agreed some).0 in
          IsRepresentedBy r (directions tables before call.number (call_of_stored call) agreement) (counted_by tables before call.number (call_of_stored call) (Some agreement))

      shows : Shows (relay_under relays call.caller)
      shows = let it = some_of call.agreed some in carried call.number (call_of_stored call) it.0 live it.1

      pub meter_not_lost : None ≡ relay_under relays call.caller → ⊥
      meter_not_lost none = subst Shows (sym none) shows

      pub meter_kept : (metered : MeteredRelay A) → Some metered ≡ relay_under relays call.caller → metered.meter ≡ counted_by tables before call.number (call_of_stored call) call.agreed
      meter_kept metered under = grind (arith, shows, some_of)

  -- ---- what is told and recorded of it

  module _ (at : StepContext A) (charged : Option MeteredCall) (is : IsMeteredCall at charged) where
    pub not_in_call : charged ≡ None → call_on at.world at.line ≡ None
    not_in_call none = let P : Option MeteredCall → Type 0 = λ c. IsMeteredCall at c in subst P none is

    module _ (it : MeteredCall) (some : charged ≡ Some it) where
      in_it : IsMeteredCall at (Some it)
      in_it = let P : Option MeteredCall → Type 0 = λ c. IsMeteredCall at c in subst P some is

      pub in_call : call_on at.world at.line ≡ Some (entry_of it.call.now)
      in_call = in_it.0

      abbrev call : Call
      call = call_of_stored it.call.now

      counts_are : (λ end. counted_from end it.meter) ≡ segments_of at.tables at.before it.call.now.number call
      counts_are = grind (arith, counted_here, in_it)

      pub told_own : (told : Option ChargingInformation) → told ≡ information_for call (λ end. counted_from end it.meter) at.moment (end_of call at.line)
          → told ≡ own_information at (call_on at.world at.line)
      told_own told is_told = grind (arith, counts_are, in_call)

      pub told_far : (told : Option ChargingInformation) → told ≡ information_for call (λ end. counted_from end it.meter) at.moment (other_end (end_of call at.line))
          → told ≡ far_information at (call_on at.world at.line)
      told_far told is_told = grind (arith, counts_are, in_call)

      pub withdrawn : (way : NoCallState) (cause diagnostic : ℕ) (charge : Record) → charge ≡ record_of it.call.now.number call (λ end. counted_from end it.meter) at.moment cause diagnostic
          → IsWithdrawal (record { change = kept.Leave at.line way; charged = Some charge }) at (leaves at.line (no_call_state_of way) cause diagnostic (call_on at.world at.line))
      withdrawn way cause diagnostic charge is_charge = grind (arith, counts_are, in_call)

    pub told_none : charged ≡ None → None ≡ own_information at (call_on at.world at.line)
    told_none none = ap (own_information at) (sym (not_in_call none))

    pub told_none_far : charged ≡ None → None ≡ far_information at (call_on at.world at.line)
    told_none_far none = ap (far_information at) (sym (not_in_call none))

    pub withdrawn_alone : charged ≡ None → (way : NoCallState) (cause diagnostic : ℕ)
        → IsWithdrawal (record { change = kept.Leave at.line way; charged = None }) at (leaves at.line (no_call_state_of way) cause diagnostic (call_on at.world at.line))
    withdrawn_alone none way cause diagnostic = grind (arith, not_in_call)

  -- ---- a plan by which a line leaves its call

  module _ (plan : Plan A) (at : StepContext A) (own far : List (Output A)) (withdrawal : Withdrawal) (change : Change) (is : IsWithdrawal withdrawal at change)
      (outputs : plan.outputs.outputs ≡ own ++ far) (uncancelled : plan.cancelled ≡ None) (changes : plan.change ≡ Some withdrawal.change)
      (records : plan.records.items ≡ option_to_list withdrawal.charged) where
    abbrev told : EventOutputs A
    told = record { carried = []; own = own; far = far; taken = [] }

    pub leaving : plan.outcome ≡ Plain → plan.relay_update ≡ None → IsPlainPlan plan at told (change ∷ [])
    leaving plain quiet = grind (arith, append-nil)
