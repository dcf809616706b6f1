-- What an event leads to, before it is entered.
use Rattle.std.specs.Prelude.{◌≡◌, Option, List, [], ◌∷◌, ◌++◌}
use Rattle.xp_charge.specs.declared.record.Record.{Record}
use Rattle.xp_subs.specs.Tables.{Tables}
use Rattle.xp_core.specs.declared.advance.PreparedEntry.{PreparedEntry}
use Rattle.xp_step.specs.declared.entry.Entry.{Entry}
use Rattle.xp_step.specs.declared.event.Event.{Event}
use Rattle.xp_step.specs.declared.outcome.Outcome.{Outcome}
use Rattle.xp_machine.specs.declared.relays.RelayUpdate.{RelayUpdate}
use Rattle.xp_machine.specs.declared.relays.MeteredRelay.{MeteredRelay}
use Rattle.xp_step.specs.Acts.{Acts}
use Rattle.xp_step.specs.RelayedPackets.{relayed_in}
use Rattle.xp_machine.specs.Changes.{all_changed, recorded_by}
use Rattle.xp_step.specs.Relays.{Relays}
use Rattle.xp_machine.specs.Relays.{relays_with}
use Rattle.xp_step.specs.Segments.{segments_of}
use Rattle.xp_step.specs.StepContext.{step_context}
use Rattle.xp_step.specs.Step.{Step}
use Rattle.xp_step.specs.Effects.{effects_of}
use Rattle.xp_step.specs.Table.{action_at}
use Rattle.xp_step.specs.EventOutputs.{EventOutputs, outputs_of}
use Rattle.xp_machine.specs.World.{World}

module _ {A : Type 0} where
  -- the relays before and after an event that settled this
  pub record RelaysAdvance (tables : Tables) (before : List (Entry A)) (world : World) (event : Event A) (outcome : Outcome) (relays later : List (Option (MeteredRelay A))) : Type 0 where
    pub relay_update : Option (RelayUpdate A)
    pub is : Relays tables before (relayed_in world event)
        (effects_of (step_context tables before world event.line event.moment) event.what (action_at world event) outcome) relay_update
    pub become : later ≡ relays_with relay_update relays

  pub record IsPreparedEntry (tables : Tables) (before : List (Entry A)) (old : World) (relays : List (Option (MeteredRelay A))) (event : Event A) (work : PreparedEntry A)
      (new : World) (later : List (Option (MeteredRelay A))) : Type 0 where
    pub told : EventOutputs A
    pub acts : Acts (step_context tables before old event.line event.moment) event.what (action_at old event) work.outcome told
    pub outputs : work.outputs ≡ outputs_of told
    pub records : work.records.items ≡ recorded_by (segments_of tables before) event.moment old (effects_of (step_context tables before old event.line event.moment) event.what (action_at old event) work.outcome)
    pub relays_on : RelaysAdvance tables before old event work.outcome relays later
    pub leads : new ≡ all_changed (effects_of (step_context tables before old event.line event.moment) event.what (action_at old event) work.outcome) old

  -- what is kept of an exchange before and after an event is entered, and its entry
  pub record Enters (tables : Tables) (old : World) (relays : List (Option (MeteredRelay A))) (history : List (Entry A)) (waiting : List Record) (event : Event A)
      (new : World) (later : List (Option (MeteredRelay A))) (entries : List (Entry A)) (charged : List Record) (entry : Entry A) : Type 0 where
    pub event_is : entry.event ≡ event
    pub step : Step tables history old entry new
    pub relays_on : RelaysAdvance tables history old event entry.outcome relays later
    pub grown : entries ≡ history ++ entry ∷ []
    pub recorded : charged ≡ waiting ++ entry.records.items
