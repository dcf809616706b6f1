-- What each branch of the planning plans, by the action that the table has.
use Rattle.std.specs.Prelude.{◌≡◌, ℕ, Option, None, Some, List, [], ◌++◌, option_to_list}
use Rattle.xp_answer.specs.ForwardedClear.{ForwardedClear}
use Rattle.xp_packets.specs.declared.packet.Packet.{Packet}
use Rattle.xp_step.specs.declared.event.What.{What}
use Rattle.xp_step.specs.declared.outcome.Outcome.TheVariants.{Plain}
use Rattle.xp_step.specs.declared.output.Output.{Output}
use Rattle.xp_step.specs.declared.plan.Plan.{Plan}
use Rattle.xp_step.specs.declared.plan.request.Cancelled.{Cancelled}
use Rattle.xp_step.specs.Acts.{Answers, Carries, IsConfirmed, IsRequested}
use Rattle.xp_step.specs.RelayedPackets.{relayed_by}
use Rattle.xp_machine.specs.Changes.{Change, all_changed}
use Rattle.xp_step.specs.Relays.{Relays, RelaysFor}
use Rattle.xp_step.specs.StepContext.{StepContext}
use Rattle.xp_step.specs.Effects.{answers, carries, confirms, requests}
use Rattle.xp_step.specs.Table.{CallAccepted, CallRequest, ClearRequest, packet_in}
use Rattle.xp_step.specs.EventOutputs.{EventOutputs, far_information, send_far}
use Rattle.xp_machine.specs.World.{Call, call_on}
use Rattle.xp_machine.specs.AppliedChange.{freed_if_any}
use Rattle.xp_step.specs.Plan.{IsPlan, recorded_at}

module _ {A : Type 0} where
  -- a collision cancels this call, if there is one, and its caller is told this
  pub record IsCancelled (cancelled : Cancelled A) (at : StepContext A) (ended : List Change) (far : List (Output A)) : Type 0 where
    pub does : freed_if_any cancelled.line at.world ≡ all_changed ended at.world
    pub next : (all_changed ended at.world).next ≡ at.world.next
    pub records : option_to_list cancelled.charged ≡ recorded_at at ended
    pub told : option_to_list cancelled.told ≡ far

  -- the same, where nothing is settled, and no relay changes
  pub record IsPlainPlan (plan : Plan A) (at : StepContext A) (told : EventOutputs A) (changes : List Change) : Type 0 where
    pub plain : plan.outcome ≡ Plain
    pub quiet : plan.relay_update ≡ None
    pub planned : IsPlan plan at told changes

  -- what the far end is told of a clear request
  abbrev pub IsToldOn : StepContext A → ClearRequest A → Option (ℕ × Call) → List (Output A) → Type 0
  IsToldOn at clear None far = far ≡ []
  IsToldOn at clear (Some found) far =
      (packet : Packet A) × ForwardedClear found.1.setup.fast clear.cause clear.diagnostic clear.block (far_information at (Some found)) packet
      × (far ≡ send_far at.world at.line (Some found) packet)

  -- what is planned for a clear request
  pub record PlansClear (at : StepContext A) (clear : ClearRequest A) (plan : Plan A) : Type 0 where
    pub told : EventOutputs A
    pub acts : IsConfirmed at clear (call_on at.world at.line) plan.outcome told
    pub relays : RelaysFor at.tables (confirms at.line (Some clear) (call_on at.world at.line)) plan.relay_update
    pub planned : IsPlan plan at told (confirms at.line (Some clear) (call_on at.world at.line))

  -- what is planned for an answer
  pub record PlansAnswer (at : StepContext A) (answer : CallAccepted A) (plan : Plan A) : Type 0 where
    pub told : EventOutputs A
    pub acts : Answers at (Some answer) (call_on at.world at.line) plan.outcome told
    pub relays : RelaysFor at.tables (answers at.line (call_on at.world at.line) plan.outcome) plan.relay_update
    pub planned : IsPlan plan at told (answers at.line (call_on at.world at.line) plan.outcome)

  -- what is planned for a call request, with the end of the call that it cancels and what the caller of that call is
  -- told
  pub record PlansRequest (at : StepContext A) (request : CallRequest A) (ended : List Change) (far : List (Output A)) (plan : Plan A) : Type 0 where
    pub told : EventOutputs A
    pub acts : IsRequested at.force at.world at.line far request plan.outcome told
    pub quiet : plan.relay_update ≡ None
    pub planned : IsPlan plan at told (ended ++ requests at.line at.moment (Some request) plan.outcome)

  -- what is planned for a packet that may be for a connected call
  pub record PlansRelayed (at : StepContext A) (what : What A) (plan : Plan A) : Type 0 where
    pub told : EventOutputs A
    pub acts : Carries at (relayed_by at.line (call_on at.world at.line) (packet_in what)) plan.outcome told
    pub relays : Relays at.tables at.before (relayed_by at.line (call_on at.world at.line) (packet_in what))
        (carries at.line (call_on at.world at.line) plan.outcome) plan.relay_update
    pub planned : IsPlan plan at told (carries at.line (call_on at.world at.line) plan.outcome)
