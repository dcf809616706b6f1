-- What each change of a step, and each thing that it puts out, comes of.
use Rattle.std.proofs.Common.{arith, ◌≡◌, ℕ, Bool, true, false, Option, Some, None, List, [], ◌∷◌, ◌++◌, All, map, refl, sym, subst}
use Rattle.std.proofs.lemmas.List.Elements.{All-append, All-contains_itself, All-from_recursion, All-map, All-same, All-weaker}
use Rattle.std.specs.List.{AllByRecursion, Contains}
use Rattle.xp_answer.specs.Answered.{Answered}
use Rattle.xp_answer.specs.ForwardedClear.{ForwardedClear}
use Rattle.xp_answer.specs.Incoming.{IsIncomingCall}
use Rattle.xp_answer.specs.Information.{cleared_with, confirmed_with}
use Rattle.xp_answer.specs.Setup.{setup_of}
use Rattle.xp_answer.specs.declared.answer.Answer.TheVariants as answered
use Rattle.xp_answer.specs.declared.connection.Connection.{Connection}
use Rattle.xp_answer.specs.declared.setup.Setup.{Setup}
use Rattle.xp_causes.specs.declared.clearing_cause.TheConstants.{LOCAL_PROCEDURE_ERROR, NETWORK_CONGESTION, NUMBER_BUSY, OUT_OF_ORDER, REMOTE_PROCEDURE_ERROR}
use Rattle.xp_causes.specs.declared.diagnostic.TheConstants.{CALL_COLLISION, NO_ADDITIONAL_INFORMATION, TIMER_EXPIRED_FOR_INCOMING_CALL}
use Rattle.xp_causes.specs.declared.refusal.Refusal.{Refusal}
use Rattle.xp_channel.specs.declared.action.Action.{Action}
use Rattle.xp_channel.specs.declared.action.Action.TheVariants.{Nothing, Rise, Fall, NewCall, Collision, Answer as Accepting, Confirm, Free, Error, Relayed, Expired}
use Rattle.xp_decide.specs.Decided.{Decided}
use Rattle.xp_decide.specs.declared.verdict.IncomingCall.{IncomingCall}
use Rattle.xp_decide.specs.declared.verdict.Verdict.TheVariants.{Take}
use Rattle.xp_facilities.specs.declared.charging_information.ChargingInformation.{ChargingInformation}
use Rattle.xp_packets.specs.declared.packet.Packet.{Packet}
use Rattle.xp_relay.specs.declared.moves.Move.{Move}
use Rattle.xp_subs.specs.Tables.{address_of}
use Rattle.xp_step.specs.declared.event.What.{What}
use Rattle.xp_step.specs.declared.event.What.TheVariants as events
use Rattle.xp_machine.specs.declared.agreement.Agreement.{Agreement}
use Rattle.xp_step.specs.declared.outcome.Outcome.{Outcome}
use Rattle.xp_step.specs.declared.outcome.Outcome.TheVariants.{Plain, Put, Refused, Connected, Declined, Exceeded}
use Rattle.xp_step.specs.declared.output.Output.{Output}
use Rattle.xp_step.specs.Acts.{Acts, Answers, CarriesAs, Confirms, IsAnswered, IsPlain, IsRequested, Requests, agreement_of, outputs_of_cancel, closed, outputs_to_both, outputs_of_error, outputs_of_fall}
use Rattle.xp_machine.specs.World.{line_states, Call, call_numbered, call_on, far_end}
use Rattle.xp_step.specs.RelayedPackets.{RelayedPacket, relayed_by, turn_of_relayed}
use Rattle.xp_machine.specs.Changes.{Change, Rises, Leaves, Begins, IsRefused, Connects, Ends, NoCallState}
use Rattle.xp_machine.specs.Channel.{INITIAL_IDENTIFIER}
use Rattle.xp_step.specs.StepContext.{StepContext}
use Rattle.xp_step.specs.Effects.{answers, carries, collides, confirms, effects_of, leaves, requests}
use Rattle.xp_step.specs.Table.{CallAccepted, CallRequest, ClearRequest, accepted_in, clear_in, packet_in, request_in}
use Rattle.xp_step.specs.EventOutputs.{EventOutputs, outputs_of_relayed, clear_indication, close, no_outputs, outputs_of, send, send_as, send_far, send_on}
use Rattle.xp_step.proofs.RelayedPackets.{carried_alone}
use Rattle.xp_machine.proofs.InCall.{shown_on}

module _ {A : Type 0} where
  -- the call request of an event
  pub record IsAsked (at : StepContext A) (what : What A) (line identifier : ℕ) (dialled : List ℕ) : Type 0 where
    pub request : CallRequest A
    pub asks : request_in what ≡ Some request
    pub line_is : line ≡ at.line
    pub identifier_is : identifier ≡ request.identifier
    pub dialled_is : dialled ≡ request.block.called

  -- it is put to a line
  pub record IsBegun (at : StepContext A) (what : What A) (line identifier called : ℕ) (dialled : List ℕ) (setup : Setup) : Type 0 where
    pub asked : IsAsked at what line identifier dialled
    pub ring : IncomingCall A
    pub decided : Decided at.force (line_states at.world) at.line asked.request.block (Take ring)
    pub called_is : called ≡ ring.line
    pub setup_is : setup ≡ setup_of ring

  -- the answer to a live call connects it
  pub record IsConnection (at : StepContext A) (number : ℕ) (call : Call) (agreement : Agreement) : Type 0 where
    pub live : call_numbered at.world number ≡ Some call
    pub answer : CallAccepted A
    pub connection : Connection A
    pub answered : Answered call.setup (address_of at.force at.line) call.dialled answer.d answer.block (answered.Connected connection)
    pub agreement_is : agreement ≡ agreement_of at.moment connection

  -- where a change comes from
  abbrev pub ComesOf : StepContext A → What A → Change → Type 0
  ComesOf at what (Rises line) = line ≡ at.line
  ComesOf at what (Leaves line way) = line ≡ at.line
  ComesOf at what (Begins line identifier called dialled setup requested) = IsBegun at what line identifier called dialled setup
  ComesOf at what (IsRefused line identifier dialled why) = IsAsked at what line identifier dialled
  ComesOf at what (Connects number call agreement) = IsConnection at number call agreement
  ComesOf at what (Ends number call line way cause diagnostic) = (call_numbered at.world number ≡ Some call) × (line ≡ at.line)

  -- where something that is put out comes from
  pub data IsSent (at : StepContext A) (what : What A) (output : Output A) : Type 0 where
    closing : output ≡ close at.world at.line → IsSent at what output
    confirming : (information : Option ChargingInformation) → output ≡ send at.world at.line (confirmed_with information) → IsSent at what output
    clearing : (cause diagnostic : ℕ) (information : Option ChargingInformation)
        → output ≡ send at.world at.line (cleared_with cause diagnostic information) → IsSent at what output
    refusing : (request : CallRequest A) (why : Refusal) → request_in what ≡ Some request
        → output ≡ send_as at.world at.line request.identifier (clear_indication why.cause why.diagnostic) → IsSent at what output
    clearing_far : (found : ℕ × Call) (cause diagnostic : ℕ) (information : Option ChargingInformation) → call_numbered at.world found.0 ≡ Some found.1
        → output ≡ send at.world (far_end found.1 at.line) (cleared_with cause diagnostic information) → IsSent at what output
    carrying_on : (found : ℕ × Call) (clear : ClearRequest A) (information : Option ChargingInformation) (packet : Packet A) → call_numbered at.world found.0 ≡ Some found.1 → clear_in what ≡ Some clear
        → ForwardedClear found.1.setup.fast clear.cause clear.diagnostic clear.block information packet
        → output ≡ send at.world (far_end found.1 at.line) packet → IsSent at what output
    connecting : (found : ℕ × Call) (answer : CallAccepted A) (connection : Connection A) → call_numbered at.world found.0 ≡ Some found.1 → accepted_in what ≡ Some answer
        → Answered found.1.setup (address_of at.force at.line) found.1.dialled answer.d answer.block (answered.Connected connection)
        → output ≡ send at.world found.1.caller connection.packet → IsSent at what output
    ringing : (request : CallRequest A) (ring : IncomingCall A) (packet : Packet A) → request_in what ≡ Some request
        → Decided at.force (line_states at.world) at.line request.block (Take ring)
        → IsIncomingCall ring (address_of at.force ring.line) (address_of at.force at.line) request.d request.block packet
        → output ≡ send_as at.world ring.line INITIAL_IDENTIFIER packet → IsSent at what output
    carrying : (carried : RelayedPacket A) (move : Move A) → relayed_by at.line (call_on at.world at.line) (packet_in what) ≡ Some carried
        → Contains (turn_of_relayed at.tables at.before carried).moves move → output ≡ send_on at.world carried.call move → IsSent at what output

  module _ (at : StepContext A) (what : What A) where
    abbrev AllCome : List Change → Type 0
    AllCome changes = AllByRecursion (ComesOf at what) changes

    abbrev AreSent : List (Output A) → Type 0
    AreSent outputs = AllByRecursion (IsSent at what) outputs

    -- ---- changes

    leaving : (way : NoCallState) (cause diagnostic : ℕ) (found : Option (ℕ × Call)) → call_on at.world at.line ≡ found → AllCome (leaves at.line way cause diagnostic found ∷ [])
    leaving way cause diagnostic found is = grind (arith, shown_on)

    requested : (request : CallRequest A) (far : List (Output A)) (outcome : Outcome) (told : EventOutputs A) → request_in what ≡ Some request
        → IsRequested at.force at.world at.line far request outcome told → AllCome (requests at.line at.moment (Some request) outcome)
    requested request far (Put called setup) told asks is = (
      record {
        asked = record { request = request; asks = asks; line_is = refl; identifier_is = refl; dialled_is = refl };
        ring = is.ring;
        decided = is.decided;
        called_is = is.called_is;
        setup_is = is.setup_is;
      },
      tt,
    )
    requested request far (Refused why) told asks is = (record { request = request; asks = asks; line_is = refl; identifier_is = refl; dialled_is = refl }, tt)
    requested request far Plain told asks is = absurd is
    requested request far (Connected agreement) told asks is = absurd is
    requested request far (Declined diagnostic) told asks is = absurd is
    requested request far Exceeded told asks is = absurd is

    requesting : (far : List (Output A)) (asked : Option (CallRequest A)) (outcome : Outcome) (told : EventOutputs A) → request_in what ≡ asked
        → Requests at.force at.world at.line far asked outcome told → AllCome (requests at.line at.moment asked outcome)
    requesting far asked outcome told asks is = grind (arith, requested)

    colliding : (far : List (Output A)) (asked : Option (CallRequest A)) (found : Option (ℕ × Call)) (outcome : Outcome) (told : EventOutputs A) → request_in what ≡ asked
        → call_on at.world at.line ≡ found → Requests at.force at.world at.line far asked outcome told → AllCome (collides at.line at.moment asked found outcome)
    colliding far asked found outcome told asks one is = grind (arith, requested, shown_on)

    accepting : (accepted : Option (CallAccepted A)) (found : Option (ℕ × Call)) (outcome : Outcome) (told : EventOutputs A) → call_on at.world at.line ≡ found
        → Answers at accepted found outcome told → AllCome (answers at.line found outcome)
    accepting accepted found outcome told one is = grind (arith, shown_on)

    confirmed : (clear : Option (ClearRequest A)) → AllCome (confirms at.line clear (call_on at.world at.line))
    confirmed clear = grind (arith, leaving)

    carried_on : (found : Option (ℕ × Call)) (outcome : Outcome) → call_on at.world at.line ≡ found → AllCome (carries at.line found outcome)
    carried_on found outcome one = grind (arith, leaving)

    -- each change that an action is
    pub all_come : (action : Action) (outcome : Outcome) (told : EventOutputs A) → Acts at what action outcome told → AllCome (effects_of at what action outcome)
    all_come action outcome told acts = grind (arith, accepting, carried_on, colliding, confirmed, leaving, requesting)

    -- ---- what is put out

    together : (own far taken : List (Output A)) → AreSent own → AreSent far → AreSent taken → All (IsSent at what) (own ++ far ++ taken)
    together own far taken of_own of_far of_taken =
        All-append (IsSent at what) (own ++ far) taken
        (All-append (IsSent at what) own far (All-from_recursion (IsSent at what) own of_own) (All-from_recursion (IsSent at what) far of_far))
        (All-from_recursion (IsSent at what) taken of_taken)

    these : (this told : EventOutputs A) → told ≡ this → this.carried ≡ [] → AreSent this.own → AreSent this.far → AreSent this.taken → All (IsSent at what) (outputs_of told)
    these this told is nothing own far taken =
        let P : EventOutputs A → Type 0 = λ t. All (IsSent at what) (outputs_of t) in
        let Q : List (Output A) → Type 0 = λ carried. All (IsSent at what) (carried ++ this.own ++ this.far ++ this.taken) in
        subst P (sym is) (subst Q (sym nothing) (together this.own this.far this.taken own far taken))

    none_sent : (outcome : Outcome) (told : EventOutputs A) → IsPlain no_outputs outcome told → All (IsSent at what) (outputs_of told)
    none_sent outcome told is = these no_outputs told is.1 refl tt tt tt

    far_cleared : (cause diagnostic : ℕ) (information : Option ChargingInformation) (found : Option (ℕ × Call)) → call_on at.world at.line ≡ found
        → AreSent (send_far at.world at.line found (cleared_with cause diagnostic information))
    far_cleared cause diagnostic information None on = tt
    far_cleared cause diagnostic information (Some found) on = (clearing_far found cause diagnostic information (shown_on at.world at.line found on).1 refl, tt)

    fall_sent : (line_what : What A) → AreSent (closed at.world at.line line_what)
    fall_sent events.Stall = (closing refl, tt)
    fall_sent events.Up = tt
    fall_sent events.Down = tt
    fall_sent (events.Frame identifier packet) = tt
    fall_sent (events.WrongFrame wrong) = tt
    fall_sent events.Expire = tt
    fall_sent events.Reload = tt

    both_sent : (near far diagnostic : ℕ) (told : EventOutputs A) → told ≡ outputs_to_both at near far diagnostic → All (IsSent at what) (outputs_of told)
    both_sent near far diagnostic told is = these (outputs_to_both at near far diagnostic) told is refl
        (clearing near diagnostic _ refl, tt) (far_cleared far diagnostic _ (call_on at.world at.line) refl) tt

    error_sent : (diagnostic : ℕ) (told : EventOutputs A) → told ≡ outputs_of_error at diagnostic → All (IsSent at what) (outputs_of told)
    error_sent diagnostic told is = both_sent LOCAL_PROCEDURE_ERROR REMOTE_PROCEDURE_ERROR diagnostic told is

    request_sent : (request : CallRequest A) (far : List (Output A)) (outcome : Outcome) (told : EventOutputs A) → request_in what ≡ Some request → AreSent far
        → IsRequested at.force at.world at.line far request outcome told → All (IsSent at what) (outputs_of told)
    request_sent request far (Put called setup) told asks of_far is =
        let P : ℕ → Type 0 = λ c. IsSent at what (send_as at.world c INITIAL_IDENTIFIER is.packet) in
        let I : ℕ → Type 0 = λ c. IsIncomingCall is.ring (address_of at.force c) (address_of at.force at.line) request.d request.block is.packet in
        these _ told is.told_is refl tt of_far
        (subst P (sym is.called_is) (ringing request is.ring is.packet asks is.decided (subst I is.called_is is.incoming) refl), tt)
    request_sent request far (Refused why) told asks of_far is = these _ told is.told_is refl (refusing request why asks refl, tt) of_far tt
    request_sent request far Plain told asks of_far is = absurd is
    request_sent request far (Connected agreement) told asks of_far is = absurd is
    request_sent request far (Declined diagnostic) told asks of_far is = absurd is
    request_sent request far Exceeded told asks of_far is = absurd is

    requests_sent : (far : List (Output A)) (asked : Option (CallRequest A)) (outcome : Outcome) (told : EventOutputs A) → request_in what ≡ asked → AreSent far
        → Requests at.force at.world at.line far asked outcome told → All (IsSent at what) (outputs_of told)
    requests_sent far None outcome told asks of_far is = none_sent outcome told is
    requests_sent far (Some request) outcome told asks of_far is = request_sent request far outcome told asks of_far is

    answer_sent : (answer : CallAccepted A) (found : ℕ × Call) (outcome : Outcome) (told : EventOutputs A) → accepted_in what ≡ Some answer → call_on at.world at.line ≡ Some found
        → IsAnswered at answer found.1 outcome told → All (IsSent at what) (outputs_of told)
    answer_sent answer found (Connected agreement) told accepts on is =
        these _ told is.told_is refl tt (connecting found answer is.connection (shown_on at.world at.line found on).1 accepts is.answered refl, tt) tt
    answer_sent answer found (Declined diagnostic) told accepts on is = error_sent diagnostic told is.told_is
    answer_sent answer found Plain told accepts on is = absurd is
    answer_sent answer found (Put called setup) told accepts on is = absurd is
    answer_sent answer found (Refused why) told accepts on is = absurd is
    answer_sent answer found Exceeded told accepts on is = absurd is

    answers_sent : (accepted : Option (CallAccepted A)) (found : Option (ℕ × Call)) (outcome : Outcome) (told : EventOutputs A) → accepted_in what ≡ accepted → call_on at.world at.line ≡ found
        → Answers at accepted found outcome told → All (IsSent at what) (outputs_of told)
    answers_sent None found outcome told accepts on is = none_sent outcome told is
    answers_sent (Some answer) None outcome told accepts on is = none_sent outcome told is
    answers_sent (Some answer) (Some found) outcome told accepts on is = answer_sent answer found outcome told accepts on is

    confirms_sent : (asked : Option (ClearRequest A)) (found : Option (ℕ × Call)) (outcome : Outcome) (told : EventOutputs A) → clear_in what ≡ asked → call_on at.world at.line ≡ found
        → Confirms at asked found outcome told → All (IsSent at what) (outputs_of told)
    confirms_sent None found outcome told clears on is = none_sent outcome told is
    confirms_sent (Some clear) None outcome told clears on is = these _ told is.1 refl (confirming None refl, tt) tt tt
    confirms_sent (Some clear) (Some found) outcome told clears on is =
        these _ told is.told_is refl (confirming _ refl, tt)
        (carrying_on found clear _ is.packet (shown_on at.world at.line found on).1 clears is.carried refl, tt) tt

    carried_sent : (carried : Option (RelayedPacket A)) (told : EventOutputs A) → relayed_by at.line (call_on at.world at.line) (packet_in what) ≡ carried
        → told ≡ outputs_of_relayed at.tables at.before at.world carried → All (IsSent at what) (outputs_of told)
    carried_sent None told by is = these no_outputs told is refl tt tt tt
    carried_sent (Some carried) told by is =
        let moves : List (Move A) = (turn_of_relayed at.tables at.before carried).moves in
        let P : EventOutputs A → Type 0 = λ t. All (IsSent at what) (outputs_of t) in
        subst P (sym is) (All-same (IsSent at what) _ (map (send_on at.world carried.call) moves)
        (sym (carried_alone (map (send_on at.world carried.call) moves)))
        (All-map (IsSent at what) (send_on at.world carried.call) moves
        (All-weaker (Contains moves) (λ move. IsSent at what (send_on at.world carried.call move)) (λ move in_it. carrying carried move by in_it refl) moves
        (All-contains_itself moves))))

    carries_sent : (carried : Option (RelayedPacket A)) (past : Bool) (outcome : Outcome) (told : EventOutputs A) → relayed_by at.line (call_on at.world at.line) (packet_in what) ≡ carried
        → CarriesAs at carried past outcome told → All (IsSent at what) (outputs_of told)
    carries_sent carried false outcome told by acts = carried_sent carried told by acts.1
    carries_sent carried true outcome told by acts = both_sent NETWORK_CONGESTION NETWORK_CONGESTION NO_ADDITIONAL_INFORMATION told acts.1

    -- all that an action puts out
    pub all_sent : (action : Action) (outcome : Outcome) (told : EventOutputs A) → Acts at what action outcome told → All (IsSent at what) (outputs_of told)
    all_sent Nothing outcome told acts = none_sent outcome told acts
    all_sent Rise outcome told acts = none_sent outcome told acts
    all_sent Fall outcome told acts = these (outputs_of_fall at what) told acts.1 refl
        (fall_sent what) (far_cleared OUT_OF_ORDER NO_ADDITIONAL_INFORMATION _ (call_on at.world at.line) refl) tt
    all_sent NewCall outcome told acts = requests_sent [] (request_in what) outcome told refl tt acts
    all_sent Collision outcome told acts =
        requests_sent (outputs_of_cancel at.world at.line) (request_in what) outcome told refl
        (far_cleared NUMBER_BUSY CALL_COLLISION None (call_on at.world at.line) refl) acts
    all_sent Accepting outcome told acts = answers_sent (accepted_in what) (call_on at.world at.line) outcome told refl refl acts
    all_sent Confirm outcome told acts = confirms_sent (clear_in what) (call_on at.world at.line) outcome told refl refl acts
    all_sent Free outcome told acts = none_sent outcome told acts
    all_sent (Error diagnostic) outcome told acts = error_sent diagnostic told acts.1
    all_sent Relayed outcome told acts = carries_sent (relayed_by at.line (call_on at.world at.line) (packet_in what)) _ outcome told refl acts
    all_sent Expired outcome told acts = error_sent TIMER_EXPIRED_FOR_INCOMING_CALL told acts.1
