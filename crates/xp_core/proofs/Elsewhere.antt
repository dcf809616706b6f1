-- An event of a line that is not in a call puts nothing out to the lines of that call.
use Rattle.std.proofs.Common.{arith, ◌≡◌, ◌∙◌, ℕ, eqb, Bool, true, false, Option, Some, None, List, [], ◌∷◌, ◌++◌, map, refl, ap, sym, subst, inl, inr}
use Rattle.std.proofs.lemmas.Bool.{cond_both, cond-false, ne_eqb}
use Rattle.std.proofs.lemmas.List.Concat.{flat_map-append}
use Rattle.std.specs.List.{AllByRecursion}
use Rattle.xp_causes.specs.declared.clearing_cause.TheConstants.{LOCAL_PROCEDURE_ERROR, NETWORK_CONGESTION, REMOTE_PROCEDURE_ERROR}
use Rattle.xp_causes.specs.declared.diagnostic.TheConstants.{NO_ADDITIONAL_INFORMATION}
use Rattle.xp_channel.specs.declared.action.Action.{Action}
use Rattle.xp_packets.specs.declared.end.End.{End}
use Rattle.xp_packets.specs.declared.packet.Packet.{Packet}
use Rattle.xp_relay.specs.declared.moves.Move.{Move}
use Rattle.xp_step.specs.declared.event.What.{What}
use Rattle.xp_step.specs.declared.event.What.TheVariants as events
use Rattle.xp_step.specs.declared.outcome.Outcome.{Outcome}
use Rattle.xp_step.specs.declared.outcome.Outcome.TheVariants.{Plain, Put, Refused, Connected, Declined, Exceeded}
use Rattle.xp_step.specs.declared.output.Output.{Output}
use Rattle.xp_step.specs.Acts.{Acts, Answers, CarriesAs, Confirms, IsAnswered, IsPlain, IsRequested, Requests, closed, outputs_to_both}
use Rattle.xp_step.specs.RelayedPackets.{RelayedPacket, relayed_by, turn_of_relayed}
use Rattle.xp_step.specs.StepContext.{StepContext}
use Rattle.xp_step.specs.Table.{CallAccepted, CallRequest, ClearRequest, packet_in}
use Rattle.xp_step.specs.EventOutputs.{EventOutputs, outputs_of_relayed, no_outputs, outputs_of, send_far, send_on}
use Rattle.xp_machine.specs.CallEnds.{line_at_end}
use Rattle.xp_machine.specs.Channel.{call_of}
use Rattle.xp_machine.specs.Coupling.{AreCoupled, IsEnd, IsHeld}
use Rattle.xp_machine.specs.World.{Call, call_on, far_end, state_at}
use Rattle.xp_core.specs.Delivered.{end_at, move_to, put_out_to}
use Rattle.xp_step.proofs.RelayedPackets.{of_carried}
use Rattle.xp_machine.proofs.InCall.{called_shows, caller_shows, shown_on}
use Rattle.xp_core.proofs.Idle.{taken_ready}

far_is_end : (call : Call) (line : ℕ) → IsEnd call (far_end call line)
far_is_end call line = cond_both (eqb call.caller line) call.called call.caller (λ other. IsEnd call other) (λ _. inr refl) (λ _. inl refl)

line_is_end : (call : Call) (end : End) → IsEnd call (line_at_end call end)
line_is_end call end = grind arith

module _ {A : Type 0} (at : StepContext A) (what : What A) (coupled : AreCoupled at.tables at.world) (number : ℕ)
    (outside : call_of (state_at at.world at.line) ≡ Some number → ⊥) where
  -- it goes to a line that is not in the call
  abbrev IsOff : Output A → Type 0
  IsOff output = call_of (state_at at.world output.line) ≡ Some number → ⊥

  abbrev AreOff : List (Output A) → Type 0
  AreOff outputs = AllByRecursion IsOff outputs

  -- all that an event puts out does
  pub record AllOff (told : EventOutputs A) : Type 0 where
    pub carried : AreOff told.carried
    pub own : AreOff told.own
    pub far : AreOff told.far
    pub taken : AreOff told.taken

  -- both lines of the call that the line of the event is in show its number
  end_shows : (found : ℕ × Call) → call_on at.world at.line ≡ Some found → (line : ℕ) → IsEnd found.1 line → call_of (state_at at.world line) ≡ Some found.0
  end_shows found is line end = grind (arith, called_shows, caller_shows, shown_on)

  to_end : (found : ℕ × Call) → call_on at.world at.line ≡ Some found → (line : ℕ) → IsEnd found.1 line → call_of (state_at at.world line) ≡ Some number → ⊥
  to_end found is line end shows = grind (arith, end_shows, shown_on)

  off_far : (found : Option (ℕ × Call)) → call_on at.world at.line ≡ found → (packet : Packet A) → AreOff (send_far at.world at.line found packet)
  off_far found is packet = grind (arith, far_is_end, to_end)

  off_closed : (event : What A) → AreOff (closed at.world at.line event)
  off_closed events.Stall = (outside, tt)
  off_closed events.Up = tt
  off_closed events.Down = tt
  off_closed (events.Frame identifier packet) = tt
  off_closed (events.WrongFrame wrong) = tt
  off_closed events.Expire = tt
  off_closed events.Reload = tt

  these : (this told : EventOutputs A) → told ≡ this → AllOff this → AllOff told
  these this told is off = subst (λ t. AllOff t) (sym is) off

  none_off : (outcome : Outcome) (told : EventOutputs A) → IsPlain no_outputs outcome told → AllOff told
  none_off outcome told is = these no_outputs told is.1 (record { carried = tt; own = tt; far = tt; taken = tt })

  request_off : (far : List (Output A)) (request : CallRequest A) (outcome : Outcome) (told : EventOutputs A) → AreOff far
      → IsRequested at.force at.world at.line far request outcome told → AllOff told
  request_off far request outcome told off is = grind (arith, taken_ready, these)

  requests_off : (far : List (Output A)) (asked : Option (CallRequest A)) (outcome : Outcome) (told : EventOutputs A) → AreOff far
      → Requests at.force at.world at.line far asked outcome told → AllOff told
  requests_off far asked outcome told off is = grind (arith, none_off, request_off)

  both_off : (near far diagnostic : ℕ) (told : EventOutputs A) → told ≡ outputs_to_both at near far diagnostic → AllOff told
  both_off near far diagnostic told is = grind (arith, off_far, these)

  answer_off : (answer : CallAccepted A) (found : ℕ × Call) → call_on at.world at.line ≡ Some found → (outcome : Outcome) (told : EventOutputs A)
      → IsAnswered at answer found.1 outcome told → AllOff told
  answer_off answer found on (Connected agreement) told is = grind (arith, these, to_end)
  answer_off answer found on (Declined diagnostic) told is = both_off LOCAL_PROCEDURE_ERROR REMOTE_PROCEDURE_ERROR diagnostic told is.told_is
  answer_off answer found on Plain told is = absurd is
  answer_off answer found on (Put called setup) told is = absurd is
  answer_off answer found on (Refused why) told is = absurd is
  answer_off answer found on Exceeded told is = absurd is

  answers_off : (accepted : Option (CallAccepted A)) (found : Option (ℕ × Call)) → call_on at.world at.line ≡ found → (outcome : Outcome) (told : EventOutputs A)
      → Answers at accepted found outcome told → AllOff told
  answers_off None found on outcome told is = none_off outcome told is
  answers_off (Some answer) None on outcome told is = none_off outcome told is
  answers_off (Some answer) (Some found) on outcome told is = answer_off answer found on outcome told is

  confirms_off : (clear : Option (ClearRequest A)) (found : Option (ℕ × Call)) → call_on at.world at.line ≡ found → (outcome : Outcome) (told : EventOutputs A)
      → Confirms at clear found outcome told → AllOff told
  confirms_off None found on outcome told is = none_off outcome told is
  confirms_off (Some clear) None on outcome told is = these _ told is.1 (record { carried = tt; own = (outside, tt); far = tt; taken = tt })
  confirms_off (Some clear) (Some found) on outcome told is = grind (arith, off_far, these)

  moves_off : (found : ℕ × Call) → call_on at.world at.line ≡ Some found → (moves : List (Move A)) → AreOff (map (send_on at.world found.1) moves)
  moves_off found on [] = tt
  moves_off found on (move ∷ moves) = (to_end found on (line_at_end found.1 move.side) (line_is_end found.1 move.side), moves_off found on moves)

  carried_off : (carried : Option (RelayedPacket A)) → relayed_by at.line (call_on at.world at.line) (packet_in what) ≡ carried → (told : EventOutputs A)
      → told ≡ outputs_of_relayed at.tables at.before at.world carried → AllOff told
  carried_off None by told is = these no_outputs told is (record { carried = tt; own = tt; far = tt; taken = tt })
  carried_off (Some carried) by told is =
      let it = of_carried at.line (call_on at.world at.line) (packet_in what) carried by in
      these _ told is (record { carried = moves_off (carried.number, carried.call) it.on (turn_of_relayed at.tables at.before carried).moves; own = tt; far = tt; taken = tt })

  carries_off : (carried : Option (RelayedPacket A)) → relayed_by at.line (call_on at.world at.line) (packet_in what) ≡ carried → (past : Bool) (outcome : Outcome) (told : EventOutputs A)
      → CarriesAs at carried past outcome told → AllOff told
  carries_off carried by false outcome told acts = carried_off carried by told acts.1
  carries_off carried by true outcome told acts = both_off NETWORK_CONGESTION NETWORK_CONGESTION NO_ADDITIONAL_INFORMATION told acts.1

  pub all_off : (action : Action) (outcome : Outcome) (told : EventOutputs A) → Acts at what action outcome told → AllOff told
  all_off action outcome told acts = grind (arith, answers_off, both_off, carries_off, confirms_off, none_off, off_closed, off_far, requests_off, these)

  -- ---- so the lines of the call are put out nothing

  module _ (call : Call) (held : IsHeld at.tables at.world number call) where
    no_end : (line : ℕ) → (call_of (state_at at.world line) ≡ Some number → ⊥) → end_at call line ≡ None
    no_end line off = grind (arith, called_shows, caller_shows, cond-false, ne_eqb)

    unheard : (outputs : List (Output A)) → AreOff outputs → put_out_to call outputs ≡ []
    unheard [] off = refl
    unheard (output ∷ outputs) off =
        ap (λ end. move_to end output.outgoing.put ++ put_out_to call outputs) (no_end output.line off.0) ∙ unheard outputs off.1

    -- nothing comes from them either
    pub nothing_put_out : (told : EventOutputs A) → AllOff told → put_out_to call (outputs_of told) ≡ []
    nothing_put_out told off = grind (arith, flat_map-append, unheard)

    pub no_end_here : end_at call at.line ≡ None
    no_end_here = no_end at.line outside
