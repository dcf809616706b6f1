-- Two steps of one event are the same, but for the line that a new call is put to.
use Rattle.std.proofs.Common.{arith, ◌≡◌, ◌∙◌, ℕ, Bool, true, false, Option, Some, None, List, [], refl, ap, sym, subst}
use Rattle.xp_answer.proofs.Once.{answers_same, incoming_call_same, indications_same}
use Rattle.xp_answer.specs.Incoming.{IsIncomingCall}
use Rattle.xp_answer.specs.Setup.{setup_of}
use Rattle.xp_answer.specs.declared.answer.Answer.{Answer}
use Rattle.xp_answer.specs.declared.answer.Answer.TheVariants as answered
use Rattle.xp_charge.specs.declared.record.Record.{Record}
use Rattle.xp_channel.specs.declared.action.Action.{Action}
use Rattle.xp_channel.specs.declared.action.Action.TheVariants.{NewCall, Collision, Answer as Answers_it, Confirm, Relayed}
use Rattle.xp_decide.proofs.Once.{decided_same}
use Rattle.xp_decide.specs.Laws.{IsSameRing}
use Rattle.xp_decide.specs.declared.verdict.IncomingCall.{IncomingCall}
use Rattle.xp_decide.specs.declared.verdict.Verdict.TheVariants.{Take, Refuse}
use Rattle.xp_packets.specs.declared.end.End.{End}
use Rattle.xp_packets.specs.declared.packet.Packet.{Packet}
use Rattle.xp_subs.specs.Tables.{Tables, address_of, modulus_of}
use Rattle.xp_step.specs.declared.entry.Entry.{Entry}
use Rattle.xp_step.specs.declared.event.Event.{Event}
use Rattle.xp_step.specs.declared.event.What.{What}
use Rattle.xp_step.specs.declared.outcome.Outcome.{Outcome}
use Rattle.xp_step.specs.declared.outcome.Outcome.TheVariants.{Plain, Put, Refused, Connected, Declined, Exceeded}
use Rattle.xp_step.specs.declared.output.Output.{Output}
use Rattle.xp_step.specs.Acts.{Acts, Answers, CarriesAs, Confirms, IsAnswered, IsPlain, IsRequested, Requests, agreement_of, outputs_of_cancel, outputs_of_clear, outputs_of_answer, outputs_of_error}
use Rattle.xp_step.specs.RelayedPackets.{RelayedPacket, relayed_by}
use Rattle.xp_machine.specs.Changes.{Change, all_changed, recorded_by}
use Rattle.xp_core.specs.Determined.{IsSameBesides, IsSameButLine, IsTakenByNeither, modulus_taken}
use Rattle.xp_core.specs.OutputsPerLine.{to_line}
use Rattle.xp_step.specs.Outcomes.{taken_by, with_line}
use Rattle.xp_step.specs.Segments.{segments_of}
use Rattle.xp_step.specs.InForce.{in_force}
use Rattle.xp_step.specs.StepContext.{StepContext, step_context}
use Rattle.xp_step.specs.Step.{Step}
use Rattle.xp_step.specs.Effects.{answers, carries, collides, effects_of, requests}
use Rattle.xp_step.specs.Table.{CallAccepted, CallRequest, ClearRequest, accepted_in, action_at, clear_in, packet_in, request_in}
use Rattle.xp_step.specs.EventOutputs.{EventOutputs, far_information, outputs_of, outputs_of_refusal, send_far}
use Rattle.xp_machine.specs.World.{Call, World, call_on}
use Rattle.xp_core.proofs.Besides.{besides, but_line, to_others, usual}
use Rattle.xp_core.proofs.Idle.{taken_ready}

-- what is recorded of an answer, whichever line a call is put to
answer_recorded : (counted : ℕ → Call → End → ℕ) (moment : ℕ) (world : World) (line : ℕ) (found : Option (ℕ × Call)) (outcome : Outcome)
    → recorded_by counted moment world (answers line found outcome) ≡ recorded_by counted moment world (answers line found (but_line outcome))
answer_recorded counted moment world line found outcome = grind arith

-- and of a packet
carry_recorded : (counted : ℕ → Call → End → ℕ) (moment : ℕ) (world : World) (line : ℕ) (found : Option (ℕ × Call)) (outcome : Outcome)
    → recorded_by counted moment world (carries line found outcome) ≡ recorded_by counted moment world (carries line found (but_line outcome))
carry_recorded counted moment world line found outcome = grind arith

module _ {A : Type 0} where
  -- two outcomes with what they put out: the same, but for the line
  record IsAlike (tables : Tables) (line : ℕ) (one : Outcome) (told : EventOutputs A) (other : Outcome) (told' : EventOutputs A) : Type 0 where
    outcome : but_line one ≡ but_line other
    windows : modulus_taken tables one ≡ modulus_taken tables other → with_line 0 one ≡ with_line 0 other
    whole : taken_by one ≡ taken_by other → one ≡ other
    put_out : taken_by one ≡ taken_by other → told ≡ told'
    elsewhere : (l : ℕ) → IsTakenByNeither one other l → to_line l (outputs_of told) ≡ to_line l (outputs_of told')
    apart : IsTakenByNeither one other line

  -- no line is taken, and all is the same
  same : (tables : Tables) (line : ℕ) (one other : Outcome) (told told' : EventOutputs A) → taken_by one ≡ None → one ≡ other → told ≡ told' → IsAlike tables line one told other told'
  same tables line one other told told' none is also = grind (arith, but_line)

  plain_alike : (tables : Tables) (line : ℕ) (this : EventOutputs A) (one other : Outcome) (told told' : EventOutputs A) → IsPlain this one told → IsPlain this other told' → IsAlike tables line one told other told'
  plain_alike tables line this one other told told' first second = same tables line one other told told' (ap taken_by first.0) (first.0 ∙ sym second.0) (first.1 ∙ sym second.1)

  -- ---- a call request

  ring_same : (one other : IncomingCall A) → one.line ≡ other.line → one.told ≡ other.told → one.asked ≡ other.asked → one.reason ≡ other.reason → one ≡ other
  ring_same one other line told asked reason = λ i. record { line = line i; told = told i; asked = asked i; reason = reason i }

  setup_same : (one other : IncomingCall A) → one.told ≡ other.told → one.asked ≡ other.asked → one.reason ≡ other.reason → setup_of one ≡ setup_of other
  setup_same one other told asked reason = grind (arith, ring_same)

  usual_same : (tables : Tables) (one other : IncomingCall A) → IsSameRing tables one other → usual (setup_of one) ≡ usual (setup_of other)
  usual_same tables one other is = grind (arith, ring_same)

  module _ (tables : Tables) (world : World) (line : ℕ) (far : List (Output A)) (request : CallRequest A) where
    requested_alike : (one other : Outcome) (told told' : EventOutputs A)
        → IsRequested tables world line far request one told → IsRequested tables world line far request other told' → IsAlike tables line one told other told'
    requested_alike (Put called setup) (Put called' setup') told told' first second =
        let rings : IsSameRing tables first.ring second.ring = decided_same tables _ line request.block (Take first.ring) (Take second.ring) first.decided second.decided in
        let by_line : called ≡ called' → modulus_of tables first.ring.line ≡ modulus_of tables second.ring.line =
        λ at. ap (modulus_of tables) (sym first.called_is ∙ at ∙ second.called_is) in
        let setups : modulus_of tables first.ring.line ≡ modulus_of tables second.ring.line → setup ≡ setup' =
        λ alike. first.setup_is ∙ setup_same first.ring second.ring (rings.told alike) rings.asked rings.reason ∙ sym second.setup_is in
        let I : ℕ → IncomingCall A → Packet A → Type 0 = λ at ring packet. IsIncomingCall ring (address_of tables at) (address_of tables line) request.d request.block packet in
        let packets : called ≡ called' → first.packet ≡ second.packet = λ at.
        let ring : first.ring ≡ second.ring =
        ring_same first.ring second.ring (sym first.called_is ∙ at ∙ second.called_is) (rings.told (by_line at)) rings.asked rings.reason in
        let moved : I called' second.ring first.packet = subst (λ c. I c second.ring first.packet) at (subst (λ r. I called r first.packet) ring first.incoming) in
        incoming_call_same second.ring (address_of tables called') (address_of tables line) request.d request.block first.packet second.packet moved second.incoming in
        record {
          outcome = ap (λ s. Put 0 (usual s)) first.setup_is ∙ ap (Put 0) (usual_same tables first.ring second.ring rings) ∙ ap (λ s. Put 0 (usual s)) (sym second.setup_is);
          windows = grind arith;
          whole = λ taken. let at : called ≡ called' = cc in ap (λ c. Put c setup) at ∙ ap (Put called') (setups (by_line at));
          put_out = grind arith;
          elsewhere = grind (arith, to_others);
          apart = grind (arith, taken_ready);
        }
    requested_alike (Put called setup) (Refused why) told told' first second =
        absurd (decided_same tables _ line request.block (Take first.ring) (Refuse why) first.decided second.decided)
    requested_alike (Refused why) (Put called setup) told told' first second =
        absurd (decided_same tables _ line request.block (Refuse why) (Take second.ring) first.decided second.decided)
    requested_alike (Refused why) (Refused why') told told' first second =
        let is : why ≡ why' = decided_same tables _ line request.block (Refuse why) (Refuse why') first.decided second.decided in
        same tables line (Refused why) (Refused why') told told' refl (ap Refused is) (first.told_is ∙ ap (outputs_of_refusal world far line request.identifier) is ∙ sym second.told_is)
    requested_alike (Put called setup) Plain told told' first second = absurd second
    requested_alike (Put called setup) (Connected agreement) told told' first second = absurd second
    requested_alike (Put called setup) (Declined diagnostic) told told' first second = absurd second
    requested_alike (Put called setup) Exceeded told told' first second = absurd second
    requested_alike (Refused why) Plain told told' first second = absurd second
    requested_alike (Refused why) (Connected agreement) told told' first second = absurd second
    requested_alike (Refused why) (Declined diagnostic) told told' first second = absurd second
    requested_alike (Refused why) Exceeded told told' first second = absurd second
    requested_alike Plain other told told' first second = absurd first
    requested_alike (Connected agreement) other told told' first second = absurd first
    requested_alike (Declined diagnostic) other told told' first second = absurd first
    requested_alike Exceeded other told told' first second = absurd first

  requests_alike : (tables : Tables) (world : World) (line : ℕ) (far : List (Output A)) (asked : Option (CallRequest A)) (one other : Outcome) (told told' : EventOutputs A)
      → Requests tables world line far asked one told → Requests tables world line far asked other told' → IsAlike tables line one told other told'
  requests_alike tables world line far None one other told told' first second = plain_alike tables line _ one other told told' first second
  requests_alike tables world line far (Some request) one other told told' first second =
      requested_alike tables world line far request one other told told' first second

  -- ---- an answer

  module _ (at : StepContext A) (answer : CallAccepted A) (call : Call) where
    answered_alike : (one other : Outcome) (told told' : EventOutputs A)
        → IsAnswered at answer call one told → IsAnswered at answer call other told' → IsAlike at.force at.line one told other told'
    answered_alike (Connected agreement) (Connected agreement') told told' first second =
        let answers : answered.Connected first.connection ≡ answered.Connected second.connection =
        answers_same call.setup (address_of at.force at.line) call.dialled answer.d answer.block _ _ first.answered second.answered in
        let is : first.connection ≡ second.connection = cc in
        same at.force at.line (Connected agreement) (Connected agreement') told told' refl
        (ap Connected (first.agreement_is ∙ ap (agreement_of at.moment) is ∙ sym second.agreement_is))
        (first.told_is ∙ ap (λ c. outputs_of_answer at.world call.caller c.packet) is ∙ sym second.told_is)
    answered_alike (Connected agreement) (Declined diagnostic) told told' first second =
        let answers : answered.Connected first.connection ≡ answered.Refused diagnostic =
        answers_same call.setup (address_of at.force at.line) call.dialled answer.d answer.block _ _ first.answered second.answered in cc
    answered_alike (Declined diagnostic) (Connected agreement) told told' first second =
        let answers : answered.Refused diagnostic ≡ answered.Connected second.connection =
        answers_same call.setup (address_of at.force at.line) call.dialled answer.d answer.block _ _ first.answered second.answered in cc
    answered_alike (Declined diagnostic) (Declined diagnostic') told told' first second =
        let answers : ◌≡◌ {A = Answer A} (answered.Refused diagnostic) (answered.Refused diagnostic') =
        answers_same call.setup (address_of at.force at.line) call.dialled answer.d answer.block _ _ first.answered second.answered in
        let is : diagnostic ≡ diagnostic' = cc in
        same at.force at.line (Declined diagnostic) (Declined diagnostic') told told' refl (ap Declined is) (first.told_is ∙ ap (outputs_of_error at) is ∙ sym second.told_is)
    answered_alike (Connected agreement) Plain told told' first second = absurd second
    answered_alike (Connected agreement) (Put called setup) told told' first second = absurd second
    answered_alike (Connected agreement) (Refused why) told told' first second = absurd second
    answered_alike (Connected agreement) Exceeded told told' first second = absurd second
    answered_alike (Declined diagnostic) Plain told told' first second = absurd second
    answered_alike (Declined diagnostic) (Put called setup) told told' first second = absurd second
    answered_alike (Declined diagnostic) (Refused why) told told' first second = absurd second
    answered_alike (Declined diagnostic) Exceeded told told' first second = absurd second
    answered_alike Plain other told told' first second = absurd first
    answered_alike (Put called setup) other told told' first second = absurd first
    answered_alike (Refused why) other told told' first second = absurd first
    answered_alike Exceeded other told told' first second = absurd first

  answers_alike : (at : StepContext A) (accepted : Option (CallAccepted A)) (found : Option (ℕ × Call)) (one other : Outcome) (told told' : EventOutputs A)
      → Answers at accepted found one told → Answers at accepted found other told' → IsAlike at.force at.line one told other told'
  answers_alike at None found one other told told' first second = plain_alike at.force at.line _ one other told told' first second
  answers_alike at (Some answer) None one other told told' first second = plain_alike at.force at.line _ one other told told' first second
  answers_alike at (Some answer) (Some found) one other told told' first second =
      answered_alike at answer found.1 one other told told' first second

  -- ---- a clear request

  confirms_alike : (at : StepContext A) (asked : Option (ClearRequest A)) (found : Option (ℕ × Call)) (one other : Outcome) (told told' : EventOutputs A)
      → Confirms at asked found one told → Confirms at asked found other told' → IsAlike at.force at.line one told other told'
  confirms_alike at None found one other told told' first second = plain_alike at.force at.line _ one other told told' first second
  confirms_alike at (Some clear) None one other told told' first second = plain_alike at.force at.line _ one other told told' first second
  confirms_alike at (Some clear) (Some found) one other told told' first second =
      let packets : first.packet ≡ second.packet =
      indications_same found.1.setup.fast clear.cause clear.diagnostic clear.block (far_information at (Some found)) first.packet second.packet first.carried second.carried in
      same at.force at.line one other told told' (ap taken_by first.plain) (first.plain ∙ sym second.plain)
      (first.told_is ∙ ap (λ packet. outputs_of_clear at (Some found) (send_far at.world at.line (Some found) packet)) packets ∙ sym second.told_is)

  -- ---- a packet of a line in data transfer

  carries_alike : (at : StepContext A) (carried : Option (RelayedPacket A)) (past : Bool) (one other : Outcome) (told told' : EventOutputs A)
      → CarriesAs at carried past one told → CarriesAs at carried past other told' → IsAlike at.force at.line one told other told'
  carries_alike at carried false one other told told' first second = plain_alike at.force at.line _ one other told told' first second
  carries_alike at carried true one other told told' first second = grind arith

  -- ---- all cells of the table

  acts_alike : (at : StepContext A) (what : What A) (action : Action) (one other : Outcome) (told told' : EventOutputs A)
      → Acts at what action one told → Acts at what action other told' → IsAlike at.force at.line one told other told'
  acts_alike at what NewCall one other told told' first second =
      requests_alike at.force at.world at.line [] (request_in what) one other told told' first second
  acts_alike at what Collision one other told told' first second =
      requests_alike at.force at.world at.line (outputs_of_cancel at.world at.line) (request_in what) one other told told' first second
  acts_alike at what Answers_it one other told told' first second =
      answers_alike at (accepted_in what) (call_on at.world at.line) one other told told' first second
  acts_alike at what Confirm one other told told' first second =
      confirms_alike at (clear_in what) (call_on at.world at.line) one other told told' first second
  acts_alike at what Relayed one other told told' first second =
      carries_alike at (relayed_by at.line (call_on at.world at.line) (packet_in what)) _ one other told told' first second
  acts_alike at what action one other told told' first second = plain_alike at.force at.line _ one other told told' first second

  -- ---- what is recorded

  request_recorded : (counted : ℕ → Call → End → ℕ) (moment : ℕ) (world : World) (line : ℕ) (asked : Option (CallRequest A)) (outcome : Outcome)
      → recorded_by counted moment world (requests line moment asked outcome) ≡ recorded_by counted moment world (requests line moment asked (but_line outcome))
  request_recorded counted moment world line asked outcome = grind arith

  collision_recorded : (counted : ℕ → Call → End → ℕ) (moment : ℕ) (world : World) (line : ℕ) (asked : Option (CallRequest A)) (found : Option (ℕ × Call)) (outcome : Outcome)
      → recorded_by counted moment world (collides line moment asked found outcome) ≡ recorded_by counted moment world (collides line moment asked found (but_line outcome))
  collision_recorded counted moment world line asked found outcome = grind (arith, request_recorded)

  -- what is recorded is the same, whichever line is taken
  recorded_alike : (counted : ℕ → Call → End → ℕ) (at : StepContext A) (what : What A) (action : Action) (outcome : Outcome)
      → recorded_by counted at.moment at.world (effects_of at what action outcome) ≡ recorded_by counted at.moment at.world (effects_of at what action (but_line outcome))
  recorded_alike counted at what NewCall outcome = request_recorded counted at.moment at.world at.line (request_in what) outcome
  recorded_alike counted at what Collision outcome = collision_recorded counted at.moment at.world at.line (request_in what) (call_on at.world at.line) outcome
  recorded_alike counted at what Relayed outcome = carry_recorded counted at.moment at.world at.line (call_on at.world at.line) outcome
  recorded_alike counted at what Answers_it outcome = answer_recorded counted at.moment at.world at.line (call_on at.world at.line) outcome
  recorded_alike counted at what action outcome = refl

  pub steps_same : (tables : Tables) (history : List (Entry A)) (world : World) (one : Entry A) (next : World) (other : Entry A) (next' : World)
      → Step tables history world one next → Step tables history world other next' → one.event ≡ other.event
      → IsSameButLine (in_force tables history) world one next other next'
  steps_same tables history world one next other next' first second event =
      let D : Event A → Outcome → List Change = λ e o. effects_of (step_context tables history world e.line e.moment) e.what (action_at world e) o in
      let C : Event A → Type 0 = λ e. Acts (step_context tables history world e.line e.moment) e.what (action_at world e) one.outcome first.told in
      let alike : IsAlike (in_force tables history) other.event.line one.outcome first.told other.outcome second.told =
      acts_alike (step_context tables history world other.event.line other.event.moment) other.event.what (action_at world other.event) one.outcome other.outcome first.told second.told
      (subst C event first.acts) second.acts in
      let S : Outcome → List Record = λ o. recorded_by (segments_of tables history) other.event.moment world (D other.event o) in
      let recorded : (o : Outcome) → S o ≡ S (but_line o) = recorded_alike (segments_of tables history) (step_context tables history world other.event.line other.event.moment) other.event.what (action_at world other.event) in
      let changes : taken_by one.outcome ≡ taken_by other.outcome → D one.event one.outcome ≡ D other.event other.outcome = λ line.
      ap (λ e. D e one.outcome) event ∙ ap (D other.event) (alike.whole line) in
      record {
        number = first.number ∙ sym second.number;
        outcome = alike.outcome;
        windows = alike.windows;
        records = first.records ∙ ap (λ e. recorded_by (segments_of tables history) e.moment world (D e one.outcome)) event
            ∙ recorded one.outcome ∙ ap S alike.outcome ∙ sym (recorded other.outcome) ∙ sym second.records;
        told = λ line neither. ap (to_line line) first.outputs ∙ alike.elsewhere line neither ∙ sym (ap (to_line line) second.outputs);
        besides =
            let B : World → World → Type 0 = λ w w'. IsSameBesides world.next one.outcome other.outcome w w' in
            let here : next ≡ all_changed (D other.event one.outcome) world = first.leads ∙ ap (λ e. all_changed (D e one.outcome) world) event in
            subst (λ w. B w next') (sym here) (subst (λ w. B (all_changed (D other.event one.outcome) world) w) (sym second.leads)
            (besides (step_context tables history world other.event.line other.event.moment) other.event.what (action_at world other.event) one.outcome other.outcome alike.outcome alike.whole));
        caller = subst (λ (e : Event A). IsTakenByNeither one.outcome other.outcome e.line) (sym event) alike.apart;
        whole = alike.whole;
        outputs = λ line. first.outputs ∙ ap outputs_of (alike.put_out line) ∙ sym second.outputs;
        world = λ line. first.leads ∙ ap (λ c. all_changed c world) (changes line) ∙ sym second.leads;
      }
