-- What a step does: nothing, one change that can be made, or, in a collision, the end of the incoming call and then one.
use Rattle.std.proofs.Common.{◌≡◌, ◌≢◌, ◌⊎◌, ℕ, ◌<◌, Bool, true, false, Option, Some, None, List, [], ◌∷◌, length, refl, ap, sym, subst, ◌∙◌, inl, inr, arith, length-set}
use Rattle.std.proofs.lemmas.Bool.{eq-eqb, ne_eqb, cond-true, cond-false}
use Rattle.xp_answer.specs.ForwardedClear.{block_with}
use Rattle.xp_answer.specs.declared.setup.Setup.{Setup}
use Rattle.xp_causes.specs.Indicated.{indicated_cause, indicated_diagnostic}
use Rattle.xp_causes.specs.declared.clearing_cause.TheConstants.{LOCAL_PROCEDURE_ERROR, NETWORK_CONGESTION, NUMBER_BUSY, OUT_OF_ORDER, REMOTE_PROCEDURE_ERROR}
use Rattle.xp_causes.specs.declared.diagnostic.TheConstants.{CALL_COLLISION, NO_ADDITIONAL_INFORMATION, TIMER_EXPIRED_FOR_INCOMING_CALL}
use Rattle.xp_causes.specs.declared.refusal.Refusal.{Refusal}
use Rattle.xp_channel.specs.declared.action.Action.{Action}
use Rattle.xp_channel.specs.declared.action.Action.TheVariants.{Nothing, Rise, Fall, NewCall, Collision, Answer, Confirm, Free, Error, Relayed, Expired}
use Rattle.xp_packets.specs.declared.block.Block.{Block}
use Rattle.xp_packets.specs.declared.packet.Packet.TheVariants.{Clear}
use Rattle.xp_subs.specs.Tables.{Tables, line_count}
use Rattle.xp_step.specs.declared.entry.Entry.{Entry}
use Rattle.xp_step.specs.declared.event.What.{What}
use Rattle.xp_machine.specs.declared.agreement.Agreement.{Agreement}
use Rattle.xp_step.specs.declared.outcome.Outcome.{Outcome}
use Rattle.xp_step.specs.declared.outcome.Outcome.TheVariants.{Plain, Put, Refused, Connected, Declined, Exceeded}
use Rattle.xp_step.specs.declared.output.Output.{Output}
use Rattle.xp_step.specs.Acts.{Acts, Answers, CarriesAs, Confirms, IsAnswered, IsConnected, IsPut, IsRequested, Requests, outputs_of_cancel, outputs_to_both, outputs_of_error, outputs_of_fall}
use Rattle.xp_step.specs.RelayedPackets.{RelayedPacket, relayed_by}
use Rattle.xp_machine.specs.Changes.{Change, Rises, Leaves, Begins, IsRefused, Connects, Ends, NoCallState, GoesOut, IsFree, IsCleared, changed}
use Rattle.xp_machine.specs.Channel.{Cleared, INITIAL_IDENTIFIER, Ready, Ringing, call_of}
use Rattle.xp_machine.specs.Coupling.{AreCoupled}
use Rattle.xp_core.specs.Records.{clears_to}
use Rattle.xp_step.specs.InForce.{in_force}
use Rattle.xp_step.specs.StepContext.{StepContext, step_context}
use Rattle.xp_step.specs.Step.{Step}
use Rattle.xp_step.specs.Effects.{answers, carries, changes_of, collides, confirms, effects_of, leaves, requests}
use Rattle.xp_step.specs.Table.{CallAccepted, CallRequest, ClearRequest, accepted_in, action_at, clear_in, packet_in, request_in}
use Rattle.xp_step.specs.EventOutputs.{EventOutputs, outputs_of}
use Rattle.xp_machine.specs.World.{Call, Line, World, call_on, far_end, line_at, state_at}
use Rattle.xp_core.proofs.Cells.{Suits, suits_in}
use Rattle.xp_core.proofs.Clears.{both_told, collision_refused, collision_taken, collision_turned_down, confirmed_told, fall_told, put_told, turned_down}
use Rattle.xp_machine.proofs.Coupled.{CanBe, IsIn, IsOut, far_shows, far_within, line_within}
use Rattle.xp_core.proofs.Idle.{IsReadyFor, taken_ready}
use Rattle.xp_machine.proofs.InCall.{end_of, none_on, shown_on}
use Rattle.xp_machine.proofs.Lines.{Twice, twice}

-- a call request is decided
abbrev pub IsNew : Action → Type 0
IsNew action = (action ≡ NewCall) ⊎ (action ≡ Collision)

-- the end of the call that a collision cancels
abbrev pub cancelled_by : ℕ → Call → ℕ → Change
cancelled_by number call line = Ends number call line IsFree NUMBER_BUSY CALL_COLLISION

module _ {A : Type 0} where
  -- the call request that a new call or a refusal comes of
  pub record IsAsked (at : StepContext A) (what : What A) (action : Action) (line identifier : ℕ) (dialled : List ℕ) : Type 0 where
    pub request : CallRequest A
    pub asks : request_in what ≡ Some request
    pub new : IsNew action
    pub line_is : line ≡ at.line
    pub identifier_is : identifier ≡ request.identifier
    pub dialled_is : dialled ≡ request.block.called

  pub record IsTaken (at : StepContext A) (what : What A) (action : Action) (outcome : Outcome) (told : EventOutputs A) (line identifier called : ℕ) (dialled : List ℕ) (setup : Setup) (requested : ℕ) : Type 0 where
    pub asked : IsAsked at what action line identifier dialled
    pub requested_is : requested ≡ at.moment
    pub took : outcome ≡ Put called setup
    pub far : List (Output A)
    pub put : IsPut at.force at.world at.line far asked.request called setup told

  pub record IsTurned (at : StepContext A) (what : What A) (action : Action) (outcome : Outcome) (told : EventOutputs A) (line identifier : ℕ) (dialled : List ℕ) (why : Refusal) : Type 0 where
    pub asked : IsAsked at what action line identifier dialled
    pub turned : outcome ≡ Refused why
    pub tells : clears_to line (outputs_of told) ≡ Clear why.cause (Some why.diagnostic) None ∷ []

  pub record IsJoined (at : StepContext A) (action : Action) (outcome : Outcome) (told : EventOutputs A) (number : ℕ) (call : Call) (agreement : Agreement) : Type 0 where
    pub old : IsNew action → ⊥
    pub answers : action ≡ Answer
    pub settled : outcome ≡ Connected agreement
    pub on : call_on at.world at.line ≡ Some (number, call)
    pub answer : CallAccepted A
    pub connected : IsConnected at answer call agreement told

  pub record IsEnded (at : StepContext A) (action : Action) (told : EventOutputs A) (call : Call) (line cause diagnostic : ℕ) : Type 0 where
    pub old : IsNew action → ⊥
    pub line_is : line ≡ at.line
    pub block : Option (Block A)
    pub tells : clears_to (far_end call line) (outputs_of told) ≡ Clear cause (Some diagnostic) block ∷ []

  -- where a change comes from
  abbrev pub ComesOf : StepContext A → What A → Action → Outcome → EventOutputs A → Change → Type 0
  ComesOf at what action outcome told (Rises line) = IsNew action → ⊥
  ComesOf at what action outcome told (Leaves line way) = IsNew action → ⊥
  ComesOf at what action outcome told (Begins line identifier called dialled setup requested) = IsTaken at what action outcome told line identifier called dialled setup requested
  ComesOf at what action outcome told (IsRefused line identifier dialled why) = IsTurned at what action outcome told line identifier dialled why
  ComesOf at what action outcome told (Connects number call agreement) = IsJoined at action outcome told number call agreement
  ComesOf at what action outcome told (Ends number call line way cause diagnostic) = IsEnded at action told call line cause diagnostic

  pub data Shape (at : StepContext A) (what : What A) (action : Action) (outcome : Outcome) (told : EventOutputs A) (changes : List Change) : Type 0 where
    none : changes ≡ [] → ((request : CallRequest A) → request_in what ≡ Some request → IsNew action → ⊥)
        → Shape at what action outcome told changes
    one : (change : Change) → changes ≡ change ∷ [] → CanBe at.world change → ComesOf at what action outcome told change
        → Shape at what action outcome told changes
    two : (number : ℕ) (call : Call) (change : Change) → IsNew action → changes ≡ cancelled_by number call at.line ∷ change ∷ []
        → CanBe at.world (cancelled_by number call at.line) → CanBe (changed (cancelled_by number call at.line) at.world) change
        → clears_to (far_end call at.line) (outputs_of told) ≡ Clear NUMBER_BUSY (Some CALL_COLLISION) None ∷ []
        → ComesOf at what action outcome told change
        → Shape at what action outcome told changes

module _ {A : Type 0} (tables : Tables) (before : List (Entry A)) (world : World) (line moment : ℕ) (coupled : AreCoupled tables world) (lines : length world.lines ≡ line_count tables) (within : line < length world.lines) where
  abbrev here : StepContext A
  here = step_context tables before world line moment

  -- the far end of the line's call is another line
  module _ (found : ℕ × Call) (is : call_on world line ≡ Some found) where
    abbrev in_call : IsIn world found.0 found.1 line
    in_call =
        let shown = shown_on world line found is in
        record { live = shown.1; shows = shown.0; end = end_of tables world coupled line found.0 found.1 shown.0 shown.1 }

    far_differs : far_end found.1 line ≢ line
    far_differs same = grind (arith, cond-false, cond-true, eq-eqb, ne_eqb)

    near_differs : line ≢ far_end found.1 line
    near_differs same = far_differs (sym same)

  leaving : (what : What A) (action : Action) (outcome : Outcome) (told : EventOutputs A) (way : NoCallState) (cause diagnostic : ℕ) (found : Option (ℕ × Call)) → call_on world line ≡ found
      → (IsNew action → ⊥)
      → ((call : ℕ × Call) → found ≡ Some call → (block : Option (Block A)) × (clears_to (far_end call.1 line) (outputs_of told) ≡ Clear cause (Some diagnostic) block ∷ []))
      → Shape here what action outcome told (leaves line way cause diagnostic found ∷ [])
  leaving what action outcome told way cause diagnostic None is old tells =
      one (Leaves line way) refl (record { within = within; none = none_on tables world coupled line is }) old
  leaving what action outcome told way cause diagnostic (Some found) is old tells =
      one (Ends found.0 found.1 line way cause diagnostic) refl (in_call found is)
      (record { old = old; line_is = refl; block = (tells found refl).0; tells = (tells found refl).1 })

  -- what is told, by what the event is
  clearing : (what : What A) (action : Action) (outcome : Outcome) (told : EventOutputs A) (near far diagnostic : ℕ) → (IsNew action → ⊥) → told ≡ outputs_to_both here near far diagnostic
      → Shape here what action outcome told (leaves line IsCleared far diagnostic (call_on world line) ∷ [])
  clearing what action outcome told near far diagnostic old is =
      leaving what action outcome told IsCleared far diagnostic (call_on world line) refl old (λ found shows.
      (_, ap (λ t. clears_to (far_end found.1 line) (outputs_of t)) is ∙ both_told here found shows near far diagnostic (near_differs found shows)))

  erring : (what : What A) (action : Action) (outcome : Outcome) (told : EventOutputs A) (diagnostic : ℕ) → (IsNew action → ⊥) → told ≡ outputs_of_error here diagnostic
      → Shape here what action outcome told (leaves line IsCleared REMOTE_PROCEDURE_ERROR diagnostic (call_on world line) ∷ [])
  erring what action outcome told diagnostic old is = clearing what action outcome told LOCAL_PROCEDURE_ERROR REMOTE_PROCEDURE_ERROR diagnostic old is

  falling : (what : What A) (outcome : Outcome) (told : EventOutputs A) → told ≡ outputs_of_fall here what
      → Shape here what Fall outcome told (leaves line GoesOut OUT_OF_ORDER NO_ADDITIONAL_INFORMATION (call_on world line) ∷ [])
  falling what outcome told is =
      leaving what Fall outcome told GoesOut OUT_OF_ORDER NO_ADDITIONAL_INFORMATION (call_on world line) refl not_new (λ found shows.
      (_, ap (λ t. clears_to (far_end found.1 line) (outputs_of t)) is ∙ fall_told here found shows what)) where
        not_new : IsNew Fall → ⊥
        not_new (inl e) = absurd (cc)
        not_new (inr e) = absurd (cc)

  answering_one : (what : What A) (outcome : Outcome) (told : EventOutputs A) (answer : CallAccepted A) (found : ℕ × Call) → call_on world line ≡ Some found
      → IsAnswered here answer found.1 outcome told → Shape here what Answer outcome told (answers line (Some found) outcome)
  answering_one what (Connected agreement) told answer found is acts =
      one (Connects found.0 found.1 agreement) refl (shown_on world line found is).1
      (record { old = not_new; answers = refl; settled = refl; on = is; answer = answer; connected = acts }) where
        not_new : IsNew Answer → ⊥
        not_new (inl e) = absurd (cc)
        not_new (inr e) = absurd (cc)
  answering_one what (Declined diagnostic) told answer found is acts =
      let P : Option (ℕ × Call) → Type 0 = λ c. Shape here what Answer (Declined diagnostic) told (leaves line IsCleared REMOTE_PROCEDURE_ERROR diagnostic c ∷ []) in
      subst P is (erring what Answer (Declined diagnostic) told diagnostic not_new acts.told_is) where
        not_new : IsNew Answer → ⊥
        not_new (inl e) = absurd (cc)
        not_new (inr e) = absurd (cc)
  answering_one what Plain told answer found is acts = absurd acts
  answering_one what (Put called setup) told answer found is acts = absurd acts
  answering_one what (Refused why) told answer found is acts = absurd acts
  answering_one what Exceeded told answer found is acts = absurd acts

  answering : (what : What A) (outcome : Outcome) (told : EventOutputs A) (accepted : Option (CallAccepted A)) (found : Option (ℕ × Call)) → call_on world line ≡ found
      → Answers here accepted found outcome told → Shape here what Answer outcome told (answers line found outcome)
  answering what outcome told accepted None is acts = grind arith
  answering what outcome told None (Some found) is acts = grind arith
  answering what outcome told (Some answer) (Some found) is acts = answering_one what outcome told answer found is acts

  confirming : (what : What A) (outcome : Outcome) (told : EventOutputs A) (clear : Option (ClearRequest A)) (found : Option (ℕ × Call)) → call_on world line ≡ found
      → Confirms here clear found outcome told → Shape here what Confirm outcome told (confirms line clear found)
  confirming what outcome told None found is acts = grind arith
  confirming what outcome told (Some clear) None is acts =
      leaving what Confirm outcome told IsFree (indicated_cause clear.cause) (indicated_diagnostic clear.diagnostic) None is not_new (λ found shows. absurd (cc)) where
        not_new : IsNew Confirm → ⊥
        not_new (inl e) = absurd (cc)
        not_new (inr e) = absurd (cc)
  confirming what outcome told (Some clear) (Some found) is acts =
      one (Ends found.0 found.1 line IsFree (indicated_cause clear.cause) (indicated_diagnostic clear.diagnostic)) refl (in_call found is) (record {
        old = not_new;
        line_is = refl;
        block = block_with acts.carried.field acts.carried.user;
        tells = ap (λ t. clears_to (far_end found.1 line) (outputs_of t)) acts.told_is ∙ confirmed_told here found is clear acts.packet acts.carried;
      }) where
        not_new : IsNew Confirm → ⊥
        not_new (inl e) = absurd (cc)
        not_new (inr e) = absurd (cc)

  -- ---- a call request

  taking : (what : What A) (action : Action) (told : EventOutputs A) (request : CallRequest A) (called : ℕ) (setup : Setup) (far : List (Output A)) → request_in what ≡ Some request → IsNew action
      → IsPut (in_force tables before) world line far request called setup told
      → ComesOf here what action (Put called setup) told (Begins line request.identifier called request.block.called setup moment)
  taking what action told request called setup far asks new put = record {
    asked = record { request = request; asks = asks; new = new; line_is = refl; identifier_is = refl; dialled_is = refl };
    requested_is = refl;
    took = refl;
    far = far;
    put = put;
  }

  ready_for : (request : CallRequest A) (called : ℕ) (setup : Setup) (far : List (Output A)) (told : EventOutputs A) → IsPut (in_force tables before) world line far request called setup told → IsReadyFor world line called
  ready_for request called setup far told put =
      let P : ℕ → Type 0 = λ l. IsReadyFor world line l in
      subst P (sym put.called_is) (taken_ready (in_force tables before) world line request.block put.ring put.decided)

  requesting : (what : What A) (outcome : Outcome) (told : EventOutputs A) (asked : Option (CallRequest A)) → request_in what ≡ asked
      → call_of (state_at world line) ≡ None → Requests (in_force tables before) world line [] asked outcome told → Shape here what NewCall outcome told (requests line moment asked outcome)
  requesting what outcome told None asks out acts = none refl (λ request is new. absurd (cc))
  requesting what (Put called setup) told (Some request) asks out acts =
      let ready = ready_for request called setup [] told acts in
      one (Begins line request.identifier called request.block.called setup moment) refl
      (record {
        one = record { within = within; none = out };
        second = record { within = ready.within; none = ap call_of ready.ready };
        differ = ready.differ;
      })
      (taking what NewCall told request called setup [] asks (inl refl) acts)
  requesting what (Refused why) told (Some request) asks out acts =
      one (IsRefused line request.identifier request.block.called why) refl (record { within = within; none = out }) (record {
        asked = record { request = request; asks = asks; new = inl refl; line_is = refl; identifier_is = refl; dialled_is = refl };
        turned = refl;
        tells = ap (λ t. clears_to line (outputs_of t)) acts.told_is ∙ turned_down world line request.identifier why;
      })
  requesting what Plain told (Some request) asks out acts = absurd acts
  requesting what (Connected agreement) told (Some request) asks out acts = absurd acts
  requesting what (Declined diagnostic) told (Some request) asks out acts = absurd acts
  requesting what Exceeded told (Some request) asks out acts = absurd acts

  -- as the incoming call has ended, its line is ready, and a line that was ready is
  module _ (found : ℕ × Call) (is : call_on world line ≡ Some found) where
    abbrev mid : World
    mid = changed (cancelled_by found.0 found.1 line) world

    abbrev cleared : Line
    cleared = record (line_at world (far_end found.1 line)) { state = Cleared }

    abbrev freed : Line
    freed = record (line_at world line) { state = Ready }

    became : (l : ℕ) → Twice world.lines (far_end found.1 line) cleared line freed l
    became l = grind (arith, far_within, line_within, twice)

    mid_count : length mid.lines ≡ length world.lines
    mid_count = length-set _ line _ ∙ length-set world.lines (far_end found.1 line) _

    line_out : IsOut mid line
    line_out = grind (arith, became, mid_count, near_differs)

    other_out : (called : ℕ) → IsReadyFor world line called → IsOut mid called
    other_out called ready = grind (arith, became, far_shows, mid_count)

    colliding_in : (what : What A) (outcome : Outcome) (told : EventOutputs A) (request : CallRequest A) → request_in what ≡ Some request
        → IsRequested (in_force tables before) world line (outputs_of_cancel world line) request outcome told → Shape here what Collision outcome told (collides line moment (Some request) (Some found) outcome)
    colliding_in what (Put called setup) told request asks acts =
        let ready = ready_for request called setup (outputs_of_cancel world line) told acts in
        two found.0 found.1 (Begins line request.identifier called request.block.called setup moment) (inr refl) refl (in_call found is)
        (record { one = line_out; second = other_out called ready; differ = ready.differ })
        (ap (λ t. clears_to (far_end found.1 line) (outputs_of t)) acts.told_is
        ∙ collision_taken world line found is called acts.packet (put_told (far_end found.1 line) called INITIAL_IDENTIFIER _ _ acts.packet acts.incoming.whole))
        (taking what Collision told request called setup (outputs_of_cancel world line) asks (inr refl) acts)
    colliding_in what (Refused why) told request asks acts =
        two found.0 found.1 (IsRefused line request.identifier request.block.called why) (inr refl) refl (in_call found is) line_out
        (ap (λ t. clears_to (far_end found.1 line) (outputs_of t)) acts.told_is ∙ collision_refused world line found is request.identifier why (near_differs found is))
        (record {
          asked = record { request = request; asks = asks; new = inr refl; line_is = refl; identifier_is = refl; dialled_is = refl };
          turned = refl;
          tells = ap (λ t. clears_to line (outputs_of t)) acts.told_is ∙ collision_turned_down world line found is request.identifier why (far_differs found is);
        })
    colliding_in what Plain told request asks acts = absurd acts
    colliding_in what (Connected agreement) told request asks acts = absurd acts
    colliding_in what (Declined diagnostic) told request asks acts = absurd acts
    colliding_in what Exceeded told request asks acts = absurd acts

  colliding : (what : What A) (outcome : Outcome) (told : EventOutputs A) (asked : Option (CallRequest A)) (found : Option (ℕ × Call)) → request_in what ≡ asked → call_on world line ≡ found
      → (number : ℕ) × (state_at world line ≡ Ringing number)
      → Requests (in_force tables before) world line (outputs_of_cancel world line) asked outcome told → Shape here what Collision outcome told (collides line moment asked found outcome)
  colliding what outcome told None found asks is rings acts = none refl (λ request asked new. absurd (cc))
  colliding what outcome told (Some request) None asks is rings acts = grind (arith, none_on)
  colliding what outcome told (Some request) (Some found) asks is rings acts = colliding_in found is what outcome told request asks acts

  -- ---- a packet of a line in data transfer

  relaying : (what : What A) (carried : Option (RelayedPacket A)) (past : Bool) (outcome : Outcome) (told : EventOutputs A) → CarriesAs here carried past outcome told
      → Shape here what Relayed outcome told (carries line (call_on world line) outcome)
  relaying what carried false outcome told acts = grind arith
  relaying what carried true outcome told acts =
      let S : Outcome → Type 0 = λ o. Shape here what Relayed o told (carries line (call_on world line) o) in
      subst S (sym acts.0) (clearing what Relayed Exceeded told NETWORK_CONGESTION NETWORK_CONGESTION NO_ADDITIONAL_INFORMATION
      (λ new. elim new [ inl e ↦ absurd (cc) | inr e ↦ absurd (cc) ]) acts.1)

  -- ---- the cells

  shape : (what : What A) (action : Action) (outcome : Outcome) (told : EventOutputs A) → Suits action (state_at world line) → Acts here what action outcome told
      → Shape here what action outcome told (effects_of here what action outcome)
  shape what Nothing outcome told suit acts = none refl (λ request asks new. elim new [ inl e ↦ absurd (cc) | inr e ↦ absurd (cc) ])
  shape what Relayed outcome told suit acts = relaying what (relayed_by line (call_on world line) (packet_in what)) _ outcome told acts
  shape what Rise outcome told suit acts = one (Rises line) refl (record { within = within; none = suit }) (λ new. elim new [ inl e ↦ absurd (cc) | inr e ↦ absurd (cc) ])
  shape what Free outcome told suit acts = one (Leaves line IsFree) refl (record { within = within; none = suit }) (λ new. elim new [ inl e ↦ absurd (cc) | inr e ↦ absurd (cc) ])
  shape what Fall outcome told suit acts = falling what outcome told acts.1
  shape what (Error diagnostic) outcome told suit acts = erring what (Error diagnostic) outcome told diagnostic (λ new. elim new [ inl e ↦ absurd (cc) | inr e ↦ absurd (cc) ]) acts.1
  shape what Expired outcome told suit acts = erring what Expired outcome told TIMER_EXPIRED_FOR_INCOMING_CALL (λ new. elim new [ inl e ↦ absurd (cc) | inr e ↦ absurd (cc) ]) acts.1
  shape what NewCall outcome told suit acts = requesting what outcome told (request_in what) refl (ap call_of suit) acts
  shape what Collision outcome told suit acts = colliding what outcome told (request_in what) (call_on world line) refl refl suit acts
  shape what Answer outcome told suit acts = answering what outcome told (accepted_in what) (call_on world line) refl acts
  shape what Confirm outcome told suit acts = confirming what outcome told (clear_in what) (call_on world line) refl acts

pub step_shape : {A : Type 0} (tables : Tables) (before : List (Entry A)) (world : World) (entry : Entry A) (next : World) → AreCoupled tables world
    → length world.lines ≡ line_count tables → (step : Step tables before world entry next)
    → Shape (step_context tables before world entry.event.line entry.event.moment) entry.event.what (action_at world entry.event) entry.outcome step.told (changes_of tables before world entry)
step_shape tables before world entry next coupled lines step =
    shape tables before world entry.event.line entry.event.moment coupled lines step.line entry.event.what (action_at world entry.event) entry.outcome step.told
    (suits_in (state_at world entry.event.line) entry.event.what) step.acts
