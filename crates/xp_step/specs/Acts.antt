-- What an event settles and puts out, by its action in the table.
use Rattle.std.specs.Prelude.{◌≡◌, ℕ, Bool, true, false, Option, None, Some, List, [], ◌∷◌}
use Rattle.xp_answer.specs.Answered.{Answered}
use Rattle.xp_answer.specs.ForwardedClear.{ForwardedClear}
use Rattle.xp_answer.specs.Incoming.{IsIncomingCall}
use Rattle.xp_answer.specs.Setup.{setup_of}
use Rattle.xp_answer.specs.declared.answer.Answer.TheVariants as answers
use Rattle.xp_answer.specs.declared.connection.Connection.{Connection}
use Rattle.xp_answer.specs.declared.setup.Setup.{Setup}
use Rattle.xp_causes.specs.declared.clearing_cause.TheConstants.{LOCAL_PROCEDURE_ERROR, NETWORK_CONGESTION, NUMBER_BUSY, OUT_OF_ORDER, REMOTE_PROCEDURE_ERROR}
use Rattle.xp_causes.specs.declared.diagnostic.TheConstants.{CALL_COLLISION, NO_ADDITIONAL_INFORMATION, TIMER_EXPIRED_FOR_INCOMING_CALL}
use Rattle.xp_causes.specs.declared.refusal.Refusal.{Refusal}
use Rattle.xp_channel.specs.declared.action.Action.{Action}
use Rattle.xp_channel.specs.declared.action.Action.TheVariants.{Nothing, Rise, Fall, NewCall, Collision, Answer, Confirm, Free, Error, Relayed, Expired}
use Rattle.xp_decide.specs.Decided.{Decided}
use Rattle.xp_decide.specs.declared.verdict.IncomingCall.{IncomingCall}
use Rattle.xp_decide.specs.declared.verdict.Verdict.TheVariants.{Take, Refuse}
use Rattle.xp_packets.specs.declared.packet.Packet.{Packet}
use Rattle.xp_subs.specs.Tables.{Tables, address_of}
use Rattle.xp_step.specs.declared.event.What.{What}
use Rattle.xp_step.specs.declared.event.What.TheVariants.{Stall}
use Rattle.xp_machine.specs.declared.agreement.Agreement.{Agreement}
use Rattle.xp_step.specs.declared.outcome.Outcome.{Outcome}
use Rattle.xp_step.specs.declared.outcome.Outcome.TheVariants.{Plain, Put, Refused, Connected, Declined, Exceeded}
use Rattle.xp_step.specs.declared.output.Output.{Output}
use Rattle.xp_step.specs.RelayedPackets.{RelayedPacket, relayed_by}
use Rattle.xp_step.specs.Segments.{is_past_limit}
use Rattle.xp_step.specs.StepContext.{StepContext}
use Rattle.xp_step.specs.Table.{CallAccepted, CallRequest, ClearRequest, accepted_in, clear_in, packet_in, request_in}
use Rattle.xp_step.specs.EventOutputs.{EventOutputs, outputs_of_relayed, clear_far, clear_indication, clear_own, close, confirm_own, far_information, no_outputs, outputs_of_refusal, send, send_far, outputs_of_incoming_call}
use Rattle.xp_machine.specs.World.{Call, World, call_on, line_states}

module _ {A : Type 0} where
  -- this is put out, and nothing is settled
  abbrev pub IsPlain : EventOutputs A → Outcome → EventOutputs A → Type 0
  IsPlain this outcome told = (outcome ≡ Plain) × (told ≡ this)

  -- a line that is given up as too slow has its connection closed
  abbrev pub closed : World → ℕ → What A → List (Output A)
  closed world line Stall = close world line ∷ []
  closed world line what = []

  -- a line goes out of service
  abbrev pub outputs_of_fall : StepContext A → What A → EventOutputs A
  outputs_of_fall at what = record {
    carried = [];
    own = closed at.world at.line what;
    far = clear_far at (call_on at.world at.line) OUT_OF_ORDER NO_ADDITIONAL_INFORMATION;
    taken = [];
  }

  -- both ends are cleared, each with a cause
  abbrev pub outputs_to_both : StepContext A → ℕ → ℕ → ℕ → EventOutputs A
  outputs_to_both at near far diagnostic = record {
    carried = [];
    own = clear_own at (call_on at.world at.line) near diagnostic ∷ [];
    far = clear_far at (call_on at.world at.line) far diagnostic;
    taken = [];
  }

  -- both ends are cleared by a procedure error
  abbrev pub outputs_of_error : StepContext A → ℕ → EventOutputs A
  outputs_of_error at diagnostic = outputs_to_both at LOCAL_PROCEDURE_ERROR REMOTE_PROCEDURE_ERROR diagnostic

  -- both ends are cleared by data that would go past the segment limit
  abbrev pub outputs_of_excess : StepContext A → EventOutputs A
  outputs_of_excess at = outputs_to_both at NETWORK_CONGESTION NETWORK_CONGESTION NO_ADDITIONAL_INFORMATION

  -- ---- a call request (clauses 4.1.2 and 4.1.3)

  -- it is put to a line, and a far end is told this
  pub record IsPut (tables : Tables) (world : World) (line : ℕ) (far : List (Output A)) (request : CallRequest A) (called : ℕ) (setup : Setup) (told : EventOutputs A) : Type 0 where
    pub ring : IncomingCall A
    pub decided : Decided tables (line_states world) line request.block (Take ring)
    pub called_is : called ≡ ring.line
    pub setup_is : setup ≡ setup_of ring
    pub packet : Packet A
    pub incoming : IsIncomingCall ring (address_of tables called) (address_of tables line) request.d request.block packet
    pub told_is : told ≡ outputs_of_incoming_call world far called packet

  -- or refused
  pub record IsTurnedDown (tables : Tables) (world : World) (line : ℕ) (far : List (Output A)) (request : CallRequest A) (why : Refusal) (told : EventOutputs A) : Type 0 where
    pub decided : Decided tables (line_states world) line request.block (Refuse why)
    pub told_is : told ≡ outputs_of_refusal world far line request.identifier why

  abbrev pub IsRequested : Tables → World → ℕ → List (Output A) → CallRequest A → Outcome → EventOutputs A → Type 0
  IsRequested tables world line far request (Put called setup) told = IsPut tables world line far request called setup told
  IsRequested tables world line far request (Refused why) told = IsTurnedDown tables world line far request why told
  IsRequested tables world line far request Plain told = ⊥
  IsRequested tables world line far request (Connected agreement) told = ⊥
  IsRequested tables world line far request (Declined diagnostic) told = ⊥
  IsRequested tables world line far request Exceeded told = ⊥

  abbrev pub Requests : Tables → World → ℕ → List (Output A) → Option (CallRequest A) → Outcome → EventOutputs A → Type 0
  Requests tables world line far None outcome told = IsPlain no_outputs outcome told
  Requests tables world line far (Some request) outcome told = IsRequested tables world line far request outcome told

  -- A call request from a line that rings (clause 4.1.6): the call that was put to the line is cancelled, and the
  -- caller of that call is told so. The line's own request is decided as if the line were ready. The decision sees the
  -- lines as they were: the caller that is told is then cleared, so it is as busy as before, and the line itself counts
  -- as busy.
  abbrev pub outputs_of_cancel : World → ℕ → List (Output A)
  outputs_of_cancel world line = send_far world line (call_on world line) (clear_indication NUMBER_BUSY CALL_COLLISION)

  -- ---- an answer (clauses 4.1.4 and 4.1.5)

  -- what a call is connected on, at this moment
  abbrev pub agreement_of : ℕ → Connection A → Agreement
  agreement_of moment connection = record { terms = connection.terms; charging = connection.charging; connected = moment }

  abbrev pub outputs_of_answer : World → ℕ → Packet A → EventOutputs A
  outputs_of_answer world caller packet = record { carried = []; own = []; far = send world caller packet ∷ []; taken = [] }

  pub record IsConnected (at : StepContext A) (answer : CallAccepted A) (call : Call) (agreement : Agreement) (told : EventOutputs A) : Type 0 where
    pub connection : Connection A
    pub answered : Answered call.setup (address_of at.force at.line) call.dialled answer.d answer.block (answers.Connected connection)
    pub agreement_is : agreement ≡ agreement_of at.moment connection
    pub told_is : told ≡ outputs_of_answer at.world call.caller connection.packet

  -- a fault in it is a procedure error
  pub record IsDeclined (at : StepContext A) (answer : CallAccepted A) (call : Call) (diagnostic : ℕ) (told : EventOutputs A) : Type 0 where
    pub answered : Answered call.setup (address_of at.force at.line) call.dialled answer.d answer.block (answers.Refused diagnostic)
    pub told_is : told ≡ outputs_of_error at diagnostic

  abbrev pub IsAnswered : StepContext A → CallAccepted A → Call → Outcome → EventOutputs A → Type 0
  IsAnswered at answer call (Connected agreement) told = IsConnected at answer call agreement told
  IsAnswered at answer call (Declined diagnostic) told = IsDeclined at answer call diagnostic told
  IsAnswered at answer call Plain told = ⊥
  IsAnswered at answer call (Put called setup) told = ⊥
  IsAnswered at answer call (Refused why) told = ⊥
  IsAnswered at answer call Exceeded told = ⊥

  abbrev pub Answers : StepContext A → Option (CallAccepted A) → Option (ℕ × Call) → Outcome → EventOutputs A → Type 0
  Answers at None found outcome told = IsPlain no_outputs outcome told
  Answers at (Some answer) None outcome told = IsPlain no_outputs outcome told
  Answers at (Some answer) (Some found) outcome told = IsAnswered at answer found.1 outcome told

  -- ---- a clear request (clauses 4.1.7 and 4.1.8)

  -- the line is confirmed at once, and the far end is told this
  abbrev pub outputs_of_clear : StepContext A → Option (ℕ × Call) → List (Output A) → EventOutputs A
  outputs_of_clear at found far = record { carried = []; own = confirm_own at found ∷ []; far = far; taken = [] }

  -- the clear request goes on to the far end
  pub record IsClearForwarded (at : StepContext A) (clear : ClearRequest A) (found : ℕ × Call) (outcome : Outcome) (told : EventOutputs A) : Type 0 where
    pub plain : outcome ≡ Plain
    pub packet : Packet A
    pub carried : ForwardedClear found.1.setup.fast clear.cause clear.diagnostic clear.block (far_information at (Some found)) packet
    pub told_is : told ≡ outputs_of_clear at (Some found) (send_far at.world at.line (Some found) packet)

  abbrev pub IsConfirmed : StepContext A → ClearRequest A → Option (ℕ × Call) → Outcome → EventOutputs A → Type 0
  IsConfirmed at clear None outcome told = IsPlain (outputs_of_clear at None []) outcome told
  IsConfirmed at clear (Some found) outcome told = IsClearForwarded at clear found outcome told

  abbrev pub Confirms : StepContext A → Option (ClearRequest A) → Option (ℕ × Call) → Outcome → EventOutputs A → Type 0
  Confirms at None found outcome told = IsPlain no_outputs outcome told
  Confirms at (Some clear) found outcome told = IsConfirmed at clear found outcome told

  -- ---- a packet of a line in data transfer (clauses 4.3 and 4.4)

  -- it goes through its call, unless it is past the segment limit
  abbrev pub CarriesAs : StepContext A → Option (RelayedPacket A) → Bool → Outcome → EventOutputs A → Type 0
  CarriesAs at carried false outcome told = IsPlain (outputs_of_relayed at.tables at.before at.world carried) outcome told
  CarriesAs at carried true outcome told = (outcome ≡ Exceeded) × (told ≡ outputs_of_excess at)

  abbrev pub Carries : StepContext A → Option (RelayedPacket A) → Outcome → EventOutputs A → Type 0
  Carries at carried outcome told = CarriesAs at carried (is_past_limit at.tables at.before carried) outcome told

  -- ---- the cells of the table

  abbrev pub Acts : StepContext A → What A → Action → Outcome → EventOutputs A → Type 0
  Acts at what Nothing outcome told = IsPlain no_outputs outcome told
  Acts at what Rise outcome told = IsPlain no_outputs outcome told
  Acts at what Fall outcome told = IsPlain (outputs_of_fall at what) outcome told
  Acts at what NewCall outcome told = Requests at.force at.world at.line [] (request_in what) outcome told
  Acts at what Collision outcome told =
      Requests at.force at.world at.line (outputs_of_cancel at.world at.line) (request_in what) outcome told
  Acts at what Answer outcome told = Answers at (accepted_in what) (call_on at.world at.line) outcome told
  Acts at what Confirm outcome told = Confirms at (clear_in what) (call_on at.world at.line) outcome told
  Acts at what Free outcome told = IsPlain no_outputs outcome told
  Acts at what (Error diagnostic) outcome told = IsPlain (outputs_of_error at diagnostic) outcome told
  Acts at what Relayed outcome told = Carries at (relayed_by at.line (call_on at.world at.line) (packet_in what)) outcome told
  Acts at what Expired outcome told = IsPlain (outputs_of_error at TIMER_EXPIRED_FOR_INCOMING_CALL) outcome told
