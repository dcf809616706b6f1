-- A plan is what an event settles, puts out, records and changes, in the terms of the code.
use Rattle.std.specs.Prelude.{◌≡◌, List, option_to_list}
use Rattle.xp_channel.specs.declared.action.Action.{Action}
use Rattle.xp_charge.specs.declared.record.Record.{Record}
use Rattle.xp_step.specs.declared.event.What.{What}
use Rattle.xp_step.specs.declared.plan.Plan.{Plan}
use Rattle.xp_step.specs.declared.plan.event_line.Withdrawal.{Withdrawal}
use Rattle.xp_step.specs.Acts.{Acts}
use Rattle.xp_step.specs.RelayedPackets.{relayed_as, relayed_by}
use Rattle.xp_machine.specs.Changes.{Change, all_changed, changed, recorded, recorded_by}
use Rattle.xp_step.specs.Relays.{Relays}
use Rattle.xp_step.specs.Segments.{segments_of}
use Rattle.xp_step.specs.StepContext.{StepContext}
use Rattle.xp_step.specs.Effects.{effects_of}
use Rattle.xp_step.specs.Table.{packet_in}
use Rattle.xp_step.specs.EventOutputs.{EventOutputs, outputs_of}
use Rattle.xp_machine.specs.World.{World, call_on}
use Rattle.xp_machine.specs.AppliedChange.{applied, applied_if_any, freed_if_any}

module _ {A : Type 0} where
  -- the records of changes, with the segments of the calls so far
  abbrev pub recorded_at : StepContext A → List Change → List Record
  recorded_at at changes = recorded_by (segments_of at.tables at.before) at.moment at.world changes

  -- a line leaves its call, if it is in one, and this is the record of the call
  pub record IsWithdrawal (withdrawal : Withdrawal) (at : StepContext A) (change : Change) : Type 0 where
    pub does : applied withdrawal.change at.world ≡ changed change at.world
    pub records : option_to_list withdrawal.charged ≡ recorded (segments_of at.tables at.before) at.moment at.world change

  -- the state after a plan: the call that is cancelled ends first
  abbrev pub applied_by : Plan A → World → World
  applied_by plan world = applied_if_any plan.change (freed_if_any plan.cancelled world)

  pub record IsPlan (plan : Plan A) (at : StepContext A) (told : EventOutputs A) (changes : List Change) : Type 0 where
    pub outputs : plan.outputs.outputs ≡ outputs_of told
    pub records : plan.records.items ≡ recorded_at at changes
    pub does : applied_by plan at.world ≡ all_changed changes at.world

  -- what is planned for an event, by its action in the table
  pub record Plans (at : StepContext A) (what : What A) (action : Action) (plan : Plan A) : Type 0 where
    pub told : EventOutputs A
    pub acts : Acts at what action plan.outcome told
    pub relays : Relays at.tables at.before (relayed_as action (relayed_by at.line (call_on at.world at.line) (packet_in what)))
        (effects_of at what action plan.outcome) plan.relay_update
    pub planned : IsPlan plan at told (effects_of at what action plan.outcome)
