-- An entry puts out few packets to a line.
use Rattle.std.proofs.Common.{◌≡◌, ℕ, suc, ◌+◌, ◌≤◌, Bool, true, false, cond, eqb, IfOk, Result, Ok, Err, Option, Some, None, List, [], ◌∷◌, filter, length, map, sym, subst, arith, length-append}
use Rattle.std.proofs.lemmas.List.{length-map}
use Rattle.xp_causes.specs.declared.clearing_cause.TheConstants.{LOCAL_PROCEDURE_ERROR, NETWORK_CONGESTION, REMOTE_PROCEDURE_ERROR}
use Rattle.xp_causes.specs.declared.diagnostic.TheConstants.{NO_ADDITIONAL_INFORMATION}
use Rattle.xp_channel.specs.declared.action.Action.{Action}
use Rattle.xp_charge.specs.declared.record.Record.{Record}
use Rattle.xp_packets.specs.declared.packet.Packet.{Packet}
use Rattle.xp_relay.proofs.Few.{puts_out_few}
use Rattle.xp_relay.specs.Terms.{IsWithinTerms}
use Rattle.xp_subs.specs.Tables.{Tables}
use Rattle.xp_step.specs.declared.entry.Entry.{Entry}
use Rattle.xp_step.specs.declared.event.Event.{Event}
use Rattle.xp_step.specs.declared.event.What.{What}
use Rattle.xp_step.specs.declared.event.What.TheVariants as events
use Rattle.xp_step.specs.declared.outcome.Outcome.{Outcome}
use Rattle.xp_step.specs.declared.output.Output.{Output}
use Rattle.xp_machine.specs.declared.relays.MeteredRelay.{MeteredRelay}
use Rattle.xp_step.specs.Acts.{Acts, Answers, CarriesAs, Confirms, IsAnswered, IsPlain, IsRequested, Requests, closed, outputs_to_both, outputs_of_error}
use Rattle.xp_step.specs.Agreed.{AllHaveTerms}
use Rattle.xp_step.specs.RelayedPackets.{RelayedPacket, arrivals, relay_terms, relayed_by, turn_of_relayed}
use Rattle.xp_core.specs.OutputsPerLine.{AreFew, to_line}
use Rattle.xp_step.specs.StepContext.{StepContext}
use Rattle.xp_step.specs.Step.{Step}
use Rattle.xp_step.specs.Table.{CallAccepted, CallRequest, ClearRequest, packet_in}
use Rattle.xp_step.specs.EventOutputs.{EventOutputs, outputs_of_relayed, no_outputs, outputs_of, send_far, send_on}
use Rattle.xp_core.specs.steps.PreparedEntry.{Enters}
use Rattle.xp_machine.specs.World.{Call, World, call_on}
use Rattle.xp_step.proofs.RelayedPackets.{of_carried}
use Rattle.xp_core.proofs.Delivered.{relay_within}
use Rattle.xp_machine.proofs.InCall.{shown_on}

module _ {A : Type 0} where
  to_line_few : (line : ℕ) (outputs : List (Output A)) → length (to_line line outputs) ≤ length outputs
  to_line_few line [] = omega arith
  to_line_few line (output ∷ outputs) =
      let rest : length (to_line line outputs) ≤ length outputs = to_line_few line outputs in
      let Few : Bool → Type 0 = λ b. length (map (λ (o : Output A). o.outgoing) (cond b (output ∷ filter (λ o. eqb o.line line) outputs) (filter (λ o. eqb o.line line) outputs))) ≤ suc (length outputs) in
      elim (eqb output.line line) as Few [ true ↦ omega (arith, rest) | false ↦ omega (arith, rest) ]

  abbrev Few : EventOutputs A → Type 0
  Few told = length told.carried + length told.own + length told.far + length told.taken ≤ 17

  few_in_all : (told : EventOutputs A) → Few told → length (outputs_of told) ≤ 17
  few_in_all told few = grind (arith, length-append)

  these : (this told : EventOutputs A) → told ≡ this → Few this → Few told
  these this told is few = subst Few (sym is) few

  none_few : (outcome : Outcome) (told : EventOutputs A) → IsPlain no_outputs outcome told → Few told
  none_few outcome told is = these no_outputs told is.1 (omega arith)

  far_few : (world : World) (line : ℕ) (found : Option (ℕ × Call)) (packet : Packet A) → length (send_far world line found packet) ≤ 1
  far_few world line found packet = grind arith

  closed_few : (world : World) (line : ℕ) (what : What A) → length (closed world line what) ≤ 1
  closed_few world line events.Stall = omega arith
  closed_few world line events.Up = omega arith
  closed_few world line events.Down = omega arith
  closed_few world line (events.Frame identifier packet) = omega arith
  closed_few world line (events.WrongFrame wrong) = omega arith
  closed_few world line events.Expire = omega arith
  closed_few world line events.Reload = omega arith

module _ {A : Type 0} (tables : Tables) (world : World) (line : ℕ) where
  request_few : (far : List (Output A)) (request : CallRequest A) (outcome : Outcome) (told : EventOutputs A) → length far ≤ 1
      → IsRequested tables world line far request outcome told → Few told
  request_few far request outcome told few is = grind (arith, these)

  requests_few : (far : List (Output A)) (asked : Option (CallRequest A)) (outcome : Outcome) (told : EventOutputs A) → length far ≤ 1
      → Requests tables world line far asked outcome told → Few told
  requests_few far asked outcome told few is = grind (arith, none_few, request_few)

module _ {A : Type 0} (at : StepContext A) where
  both_few : (near far diagnostic : ℕ) (told : EventOutputs A) → told ≡ outputs_to_both at near far diagnostic → Few told
  both_few near far diagnostic told is = grind (arith, far_few, these)

  error_few : (diagnostic : ℕ) (told : EventOutputs A) → told ≡ outputs_of_error at diagnostic → Few told
  error_few diagnostic told is = both_few LOCAL_PROCEDURE_ERROR REMOTE_PROCEDURE_ERROR diagnostic told is

  answer_few : (answer : CallAccepted A) (call : Call) (outcome : Outcome) (told : EventOutputs A) → IsAnswered at answer call outcome told → Few told
  answer_few answer call outcome told is = grind (arith, error_few, these)

  answers_few : (accepted : Option (CallAccepted A)) (found : Option (ℕ × Call)) (outcome : Outcome) (told : EventOutputs A) → Answers at accepted found outcome told → Few told
  answers_few accepted found outcome told is = grind (arith, answer_few, none_few)

  confirms_few : (clear : Option (ClearRequest A)) (found : Option (ℕ × Call)) (outcome : Outcome) (told : EventOutputs A) → Confirms at clear found outcome told → Few told
  confirms_few clear found outcome told is = grind (arith, none_few, these)

module _ {A : Type 0} (at : StepContext A) (what : What A) (terms : AllHaveTerms at.tables at.world) where
  carried_few : (carried : Option (RelayedPacket A)) → relayed_by at.line (call_on at.world at.line) (packet_in what) ≡ carried → (told : EventOutputs A)
      → told ≡ outputs_of_relayed at.tables at.before at.world carried → Few told
  carried_few None by told is = these no_outputs told is (omega arith)
  carried_few (Some carried) by told is =
      let it = of_carried at.line (call_on at.world at.line) (packet_in what) carried by in
      let live = (shown_on at.world at.line (carried.number, carried.call) it.on).1 in
      let within : IsWithinTerms (relay_terms at.tables carried.call carried.agreement) =
      relay_within at.tables at.world carried.number carried.call carried.agreement terms live it.agreed in
      let moves = (turn_of_relayed at.tables at.before carried).moves in
      let few = puts_out_few (relay_terms at.tables carried.call carried.agreement) within (arrivals at.tables at.before carried.number) carried.arrival in
      these _ told is (omega (arith, few, within.from_caller.most_window, within.from_called.most_window, length-map moves (send_on at.world carried.call)))

  carries_few : (carried : Option (RelayedPacket A)) → relayed_by at.line (call_on at.world at.line) (packet_in what) ≡ carried → (past : Bool) (outcome : Outcome) (told : EventOutputs A)
      → CarriesAs at carried past outcome told → Few told
  carries_few carried by false outcome told acts = carried_few carried by told acts.1
  carries_few carried by true outcome told acts = both_few at NETWORK_CONGESTION NETWORK_CONGESTION NO_ADDITIONAL_INFORMATION told acts.1

  few_told : (action : Action) (outcome : Outcome) (told : EventOutputs A) → Acts at what action outcome told → Few told
  few_told action outcome told acts = grind (arith, answers_few, carries_few, closed_few, confirms_few, error_few, far_few, none_few, requests_few, these)

module _ {A : Type 0} where
  pub few_of_step : (tables : Tables) (before : List (Entry A)) (world : World) (entry : Entry A) (next : World) → AllHaveTerms tables world → Step tables before world entry next → AreFew entry.outputs
  few_of_step tables before world entry next terms step line = grind (arith, few_in_all, few_told, to_line_few)

  -- the outcome of a call that returns what `advance` returned
  pub outcome_few : {E : Type 0} (tables : Tables) (old : World) (relays : List (Option (MeteredRelay A))) (history : List (Entry A)) (waiting : List Record) (event : Event A)
      (new : World) (later : List (Option (MeteredRelay A))) (entries : List (Entry A)) (charged : List Record) (outcome : Result (Entry A) E) → AllHaveTerms tables old
      → IfOk outcome (λ entry. Enters tables old relays history waiting event new later entries charged entry) → IfOk outcome (λ entry. AreFew entry.outputs)
  outcome_few tables old relays history waiting event new later entries charged (Ok entry) terms done = few_of_step tables history old entry new terms done.step
  outcome_few tables old relays history waiting event new later entries charged (Err fault) terms done = tt
