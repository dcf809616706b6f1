-- What a stall leads to.
use Rattle.std.proofs.Common.{◌≡◌, ◌∙◌, ℕ, ◌+◌, ◌<◌, ◌≤◌, true, false, Option, None, [], ◌∷◌, refl, ap, sym, arith}
use Rattle.xp_causes.specs.declared.clearing_cause.TheConstants.{OUT_OF_ORDER}
use Rattle.xp_causes.specs.declared.diagnostic.TheConstants.{NO_ADDITIONAL_INFORMATION}
use Rattle.xp_channel.specs.declared.action.Action.{Action}
use Rattle.xp_channel.specs.declared.action.Action.TheVariants.{Nothing, Fall}
use Rattle.xp_channel.specs.declared.kind.EventKind.TheVariants as kinds
use Rattle.xp_channel.specs.Table.{cell}
use Rattle.xp_core.specs.declared.advance.PreparedEntry.{PreparedEntry}
use Rattle.xp_step.specs.declared.event.Event.{Event}
use Rattle.xp_step.specs.declared.event.What.{What}
use Rattle.xp_step.specs.declared.event.What.TheVariants.{Stall}
use Rattle.xp_step.specs.declared.outcome.Outcome.TheVariants.{Plain}
use Rattle.xp_step.specs.Acts.{Acts}
use Rattle.xp_step.specs.RelayedPackets.{relayed_as, relayed_by}
use Rattle.xp_machine.specs.Changes.{GoesOut, NoCallState, all_changed, changed}
use Rattle.xp_machine.specs.Channel.{State, channel_of, is_off}
use Rattle.xp_step.specs.Effects.{effects_of, leaves}
use Rattle.xp_machine.specs.AppliedChange.{left}
use Rattle.xp_step.specs.Plan.{recorded_at}
use Rattle.xp_step.specs.Relays.{Relays}
use Rattle.xp_step.specs.StepContext.{StepContext}
use Rattle.xp_core.specs.steps.Stalling.{MakesStall, outputs_of_stall}
use Rattle.xp_step.specs.Stalls.{is_raised, is_stall, places_for}
use Rattle.xp_core.specs.steps.Stalls.{stall_of}
use Rattle.xp_step.specs.Table.{action_at, packet_in}
use Rattle.xp_step.specs.EventOutputs.{EventOutputs, no_outputs, outputs_of}
use Rattle.xp_machine.specs.World.{Call, World, call_on, state_at}
use Rattle.xp_step.proofs.Quiet.{leaves_quiet}

-- a line that leaves its call
left_changed : (line : ℕ) (way : NoCallState) (cause diagnostic : ℕ) (found : Option (ℕ × Call)) (world : World)
    → left line way found world ≡ changed (leaves line way cause diagnostic found) world
left_changed line way cause diagnostic found world = grind arith

-- the table of actions has nothing for a line out of service
pub when_off : (state : State) → is_off state ≡ true → cell (channel_of state) kinds.Down ≡ Nothing
when_off state off = grind arith

pub when_on : (state : State) → is_off state ≡ false → cell (channel_of state) kinds.Down ≡ Fall
when_on state one = grind arith

module _ {A : Type 0} (at : StepContext A) (work : PreparedEntry A) (next : World) (plain : work.outcome ≡ Plain) where
  -- by what the table of actions has for it
  makes : (action : Action) (told : EventOutputs A) → action_at {A = A} at.world (stall_of at.line at.moment) ≡ action
      → Acts at Stall action work.outcome told
      → work.outputs ≡ outputs_of told
      → work.records.items ≡ recorded_at at (effects_of at Stall action work.outcome)
      → Relays at.tables at.before (relayed_as action (relayed_by at.line (call_on at.world at.line) (packet_in Stall))) (effects_of at Stall action work.outcome) None
      → next ≡ all_changed (effects_of at Stall action work.outcome) at.world
      → MakesStall at work next
  makes action told is acts outputs records relays leads kept = grind arith

  -- of a line out of service
  pub makes_nothing : is_off (state_at at.world at.line) ≡ true → work.outputs ≡ [] → work.records.items ≡ [] → next ≡ at.world → MakesStall at work next
  makes_nothing off outputs records stays = makes Nothing no_outputs (when_off (state_at at.world at.line) off) (plain, refl) outputs records refl stays

  -- of one in service
  pub makes_fall : is_off (state_at at.world at.line) ≡ false → work.outputs ≡ outputs_of (outputs_of_stall at)
      → work.records.items ≡ recorded_at at (leaves at.line GoesOut OUT_OF_ORDER NO_ADDITIONAL_INFORMATION (call_on at.world at.line) ∷ [])
      → next ≡ left at.line GoesOut (call_on at.world at.line) at.world → MakesStall at work next
  makes_fall on outputs records out =
      makes Fall (outputs_of_stall at) (when_on (state_at at.world at.line) on) (plain, refl) outputs records
      (leaves_quiet at.tables at.line _ _ _ (call_on at.world at.line) None refl)
      (out ∙ left_changed at.line GoesOut OUT_OF_ORDER NO_ADDITIONAL_INFORMATION (call_on at.world at.line) at.world)

-- which event a stall is
stall_what : {A : Type 0} (what : What A) → is_stall what ≡ true → what ≡ Stall
stall_what what is = grind arith

pub stall_is : {A : Type 0} (event : Event A) → is_stall event.what ≡ true → stall_of event.line event.moment ≡ event
stall_is event is = ap (λ w. record { line = event.line; moment = event.moment; what = w }) (sym (stall_what event.what is))

-- an event of a line has to have four places left
pub places_for_others : {A : Type 0} (what : What A) → is_raised what ≡ false → places_for what ≡ 4
places_for_others what is = grind arith

-- every event takes a place
least_places : {A : Type 0} (what : What A) → 1 ≤ places_for what
least_places what = grind arith

-- so a history that has the places for an event can get its entry
pub has_room : {A : Type 0} (what : What A) (count limit : ℕ) → count + places_for what ≤ limit → count < limit
has_room what count limit enough = let least = least_places what in omega (arith, enough, least)
