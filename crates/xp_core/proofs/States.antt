-- The line of an event comes to the state that the table of actions has, or to p7 where it is cleared at once.
use Rattle.std.proofs.Common.{◌≡◌, ◌≢◌, ◌∙◌, ℕ, ◌<◌, Bool, true, false, Option, Some, List, [], ◌∷◌, length, get_or, set, refl, ap, sym, subst, arith, length-set, get_or-set_other}
use Rattle.std.proofs.lemmas.List.{get_or-set_same}
use Rattle.std.specs.Prelude.{option_map}
use Rattle.xp_answer.specs.declared.setup.Setup.{Setup}
use Rattle.xp_channel.specs.declared.action.Action.{Action}
use Rattle.xp_channel.specs.declared.action.Action.TheVariants.{Nothing, Rise, Fall, NewCall, Collision, Answer, Confirm, Free, Error, Relayed, Expired}
use Rattle.xp_channel.specs.declared.channel.Channel.{Channel}
use Rattle.xp_channel.specs.declared.channel.Channel.TheVariants.{Off, P1, P2, P3, P4, P7}
use Rattle.xp_packets.specs.declared.packet.Packet.TheVariants.{Call as CallPacket, Accepted, Clear}
use Rattle.xp_subs.specs.Tables.{Tables, line_count}
use Rattle.xp_step.specs.declared.entry.Entry.{Entry}
use Rattle.xp_step.specs.declared.event.What.{What}
use Rattle.xp_step.specs.declared.event.What.TheVariants.{Frame}
use Rattle.xp_step.specs.declared.outcome.Outcome.{Outcome}
use Rattle.xp_step.specs.declared.outcome.Outcome.TheVariants.{Plain, Put, Refused, Connected, Declined, Exceeded}
use Rattle.xp_step.specs.declared.output.Output.{Output}
use Rattle.xp_step.specs.Acts.{Acts, Answers, CarriesAs, Confirms, IsAnswered, IsPut, IsRequested, outputs_of_cancel}
use Rattle.xp_step.specs.Effects.{answers, carries, collides, confirms, effects_of, leaves, requests}
use Rattle.xp_step.specs.EventOutputs.{EventOutputs}
use Rattle.xp_step.specs.RelayedPackets.{RelayedPacket, relayed_by}
use Rattle.xp_step.specs.Run.{Run}
use Rattle.xp_step.specs.Step.{Step}
use Rattle.xp_step.specs.InForce.{in_force}
use Rattle.xp_step.specs.StepContext.{StepContext, step_context}
use Rattle.xp_step.specs.Table.{CallAccepted, CallRequest, ClearRequest, accepted_in, action_at, action_in, clear_in, packet_in, request_in}
use Rattle.xp_machine.specs.Changes.{Change, NoCallState, IsFree, IsCleared, GoesOut, all_changed, state_after}
use Rattle.xp_machine.specs.Channel.{call_of, channel_of}
use Rattle.xp_machine.specs.Coupling.{AreCoupled, IsEnd, IsHeld}
use Rattle.xp_machine.specs.World.{Call, Line, World, call_on, numbered, off_line, state_at}
use Rattle.xp_machine.proofs.Lines.{twice}
use Rattle.xp_core.specs.States.{IsStateAfter, channel_at}
use Rattle.xp_core.proofs.Cells.{Suits, suits_in}
use Rattle.xp_core.proofs.Idle.{taken_ready}
use Rattle.xp_core.proofs.Sounds.{run_right}

-- a line that is set to a state
set_to : (lines : List Line) (line : ℕ) (becomes : Line) → line < length lines
    → channel_of (get_or (set lines line becomes) line off_line).state ≡ channel_of becomes.state
set_to lines line becomes within = ap (λ l. channel_of l.state) (get_or-set_same lines line becomes off_line within)

-- and then another line is set
set_before : (lines : List Line) (line other : ℕ) (becomes last : Line) → line ≢ other → line < length lines
    → channel_of (get_or (set (set lines line becomes) other last) line off_line).state ≡ channel_of becomes.state
set_before lines line other becomes last differ within = grind (arith, get_or-set_other, get_or-set_same)

module _ {A : Type 0} where
  -- the packet that an action is for
  abbrev Asks : Action → What A → Type 0
  Asks NewCall what = (request : CallRequest A) × (request_in what ≡ Some request)
  Asks Collision what = (request : CallRequest A) × (request_in what ≡ Some request)
  Asks Answer what = (accepted : CallAccepted A) × (accepted_in what ≡ Some accepted)
  Asks Confirm what = (clear : ClearRequest A) × (clear_in what ≡ Some clear)
  Asks action what = Unit {0}

  asks : (state : Channel) (what : What A) → Asks (action_in state what) what
  asks Off (Frame identifier (CallPacket d block)) = tt
  asks P7 (Frame identifier (CallPacket d block)) = tt
  asks P1 (Frame identifier (CallPacket d block)) = (_, refl)
  asks P3 (Frame identifier (CallPacket d block)) = (_, refl)
  asks P3 (Frame identifier (Accepted d block)) = (_, refl)
  asks P1 (Frame identifier (Clear cause diagnostic block)) = (_, refl)
  asks P2 (Frame identifier (Clear cause diagnostic block)) = (_, refl)
  asks P3 (Frame identifier (Clear cause diagnostic block)) = (_, refl)
  asks P4 (Frame identifier (Clear cause diagnostic block)) = (_, refl)
  asks state what = tt

  -- a clear request settles nothing
  confirmed_plain : (at : StepContext A) (clear : ClearRequest A) (found : Option (ℕ × Call)) (outcome : Outcome) (told : EventOutputs A)
      → Confirms at (Some clear) found outcome told → outcome ≡ Plain
  confirmed_plain at clear found outcome told acts = grind arith

module _ {A : Type 0} (tables : Tables) (history : List (Entry A)) (world : World) (line moment : ℕ)
    (coupled : AreCoupled tables world) (lines : length world.lines ≡ line_count tables) (within : line < length world.lines) where
  abbrev at : StepContext A
  at = step_context tables history world line moment

  abbrev old : Channel
  old = channel_at world line

  -- the state of the line after these changes
  abbrev after : List Change → Channel
  after changes = channel_at (all_changed changes world) line

  left : (way : NoCallState) (cause diagnostic : ℕ) (found : Option (ℕ × Call)) → after (leaves line way cause diagnostic found ∷ []) ≡ channel_of (state_after way)
  left way cause diagnostic found = grind (arith, length-set, set_to)

  -- ---- a call request

  -- its own line is not the one that it is put to
  elsewhere : (far : List (Output A)) (request : CallRequest A) (called : ℕ) (setup : Setup) (told : EventOutputs A)
      → IsPut (in_force tables history) world line far request called setup told → line ≢ called
  elsewhere far request called setup told put = grind (arith, taken_ready)

  -- from the state in which the call that was put to the line is cancelled, if there was one
  requested : (now : World) → line < length now.lines → (far : List (Output A)) (request : CallRequest A) (outcome : Outcome) (told : EventOutputs A)
      → IsRequested (in_force tables history) world line far request outcome told
      → IsStateAfter old NewCall outcome (channel_at (all_changed (requests line moment (Some request) outcome) now) line)
  requested now there far request (Put called setup) told acts = set_before now.lines line called _ _ (elsewhere far request called setup told acts) there
  requested now there far request (Refused why) told acts = set_to now.lines line _ there
  requested now there far request Plain told acts = acts
  requested now there far request (Connected agreement) told acts = acts
  requested now there far request (Declined diagnostic) told acts = acts
  requested now there far request Exceeded told acts = acts

  as_collision : (outcome : Outcome) (state : Channel) → IsStateAfter old NewCall outcome state → IsStateAfter old Collision outcome state
  as_collision outcome state is = grind arith

  collided : (request : CallRequest A) (found : Option (ℕ × Call)) (outcome : Outcome) (told : EventOutputs A)
      → IsRequested (in_force tables history) world line (outputs_of_cancel world line) request outcome told
      → IsStateAfter old Collision outcome (after (collides line moment (Some request) found outcome))
  collided request found outcome told acts = grind (arith, as_collision, length-set, requested)

  -- ---- an answer

  answered : (answer : CallAccepted A) (found : ℕ × Call) → IsHeld tables world found.0 found.1 → IsEnd found.1 line → (outcome : Outcome) (told : EventOutputs A)
      → IsAnswered at answer found.1 outcome told → IsStateAfter old Answer outcome (after (answers line (Some found) outcome))
  answered answer found outcome end one told acts = grind (arith, twice)

  -- ---- a packet of a line in data transfer

  relayed : (carried : Option (RelayedPacket A)) (past : Bool) (outcome : Outcome) (told : EventOutputs A) → CarriesAs at carried past outcome told
      → IsStateAfter old Relayed outcome (after (carries line (call_on world line) outcome))
  relayed carried past outcome told acts =
      let S : Outcome → Type 0 = λ o. IsStateAfter old Relayed o (after (carries line (call_on world line) o)) in
      elim past as (λ b. CarriesAs at carried b outcome told → S outcome) [
        | false ↦ λ plain. subst S (sym plain.0) refl
        | true ↦ λ exceeded. subst S (sym exceeded.0) (left IsCleared _ _ (call_on world line))
      ] acts

  -- ---- the cells

  follows : (what : What A) (action : Action) (outcome : Outcome) (told : EventOutputs A) → Suits action (state_at world line) → Asks action what
      → Acts at what action outcome told → IsStateAfter old action outcome (after (effects_of at what action outcome))
  follows what Nothing outcome told suit asked acts = (acts.0, refl)
  follows what Rise outcome told suit asked acts = (acts.0, set_to world.lines line _ within)
  follows what Fall outcome told suit asked acts = (acts.0, left GoesOut _ _ (call_on world line))
  follows what Free outcome told suit asked acts = (acts.0, set_to world.lines line _ within)
  follows what (Error diagnostic) outcome told suit asked acts = (acts.0, left IsCleared _ _ (call_on world line))
  follows what Expired outcome told suit asked acts = (acts.0, left IsCleared _ _ (call_on world line))
  follows what Relayed outcome told suit asked acts = relayed (relayed_by line (call_on world line) (packet_in what)) _ outcome told acts
  follows what NewCall outcome told suit asked acts = grind (arith, asks, requested)
  follows what Collision outcome told suit asked acts = grind (arith, asks, collided)
  follows what Answer outcome told suit asked acts =
      let shown = coupled.shown line suit.0 (ap call_of suit.1) in
      let found : ℕ × Call = (suit.0, shown.0) in
      let with_number : Call → ℕ × Call = λ call. (suit.0, call) in
      let on : call_on world line ≡ Some found = ap (λ state. numbered world (call_of state)) suit.1 ∙ ap (option_map with_number) shown.1 in
      let P : Option (CallAccepted A) → Type 0 = λ asks. Answers at asks (call_on world line) outcome told in
      let Q : Option (ℕ × Call) → Type 0 = λ call. Answers at (Some asked.0) call outcome told in
      let S : Option (ℕ × Call) → Type 0 = λ call. IsStateAfter old Answer outcome (after (answers line call outcome)) in
      subst S (sym on) (answered asked.0 found (coupled.held suit.0 shown.0 shown.1) shown.2 outcome told (subst Q on (subst P asked.1 acts)))
  follows what Confirm outcome told suit asked acts =
      let P : Option (ClearRequest A) → Type 0 = λ asks. Confirms at asks (call_on world line) outcome told in
      let S : Option (ClearRequest A) → Type 0 = λ asks. after (confirms line asks (call_on world line)) ≡ P1 in
      (confirmed_plain at asked.0 (call_on world line) outcome told (subst P asked.1 acts), subst S (sym asked.1) (left IsFree _ _ (call_on world line)))

pub state_follows : {A : Type 0} (tables : Tables) (history : List (Entry A)) (world : World) (entry : Entry A) (next : World)
    → Run tables history world → Step tables history world entry next
    → IsStateAfter (channel_at world entry.event.line) (action_at world entry.event) entry.outcome (channel_at next entry.event.line)
state_follows tables history world entry next run step = grind (arith, asks, follows, run_right, suits_in)
