-- Closed user groups let the stations of every call be joined.
use Rattle.std.proofs.Common.{arith, ◌≡◌, ℕ, Bool, true, false, Option, Some, None, List, sym, subst, IfSome}
use Rattle.xp_channel.specs.declared.action.Action.{Action}
use Rattle.xp_decide.proofs.Joined.{taken_may_join}
use Rattle.xp_subs.specs.Sound.{IsSound}
use Rattle.xp_subs.specs.Tables.{Tables}
use Rattle.xp_step.specs.declared.entry.Entry.{Entry}
use Rattle.xp_step.specs.declared.event.What.{What}
use Rattle.xp_step.specs.declared.outcome.Outcome.{Outcome}
use Rattle.xp_step.specs.declared.outcome.Outcome.TheVariants.{Plain, Put, Refused, Connected, Declined, Exceeded}
use Rattle.xp_step.specs.declared.output.Output.{Output}
use Rattle.xp_step.specs.Acts.{Acts, Answers, CarriesAs, Confirms, Requests}
use Rattle.xp_machine.specs.World.{line_states, Call, World, call_numbered}
use Rattle.xp_step.specs.RelayedPackets.{RelayedPacket}
use Rattle.xp_core.specs.Joined.{AreJoined, IsJoined, MayTalk}
use Rattle.xp_core.specs.Records.{Moment}
use Rattle.xp_step.specs.InForce.{in_force}
use Rattle.xp_step.specs.Outcomes.{taken_by}
use Rattle.xp_step.specs.Run.{Run}
use Rattle.xp_step.specs.StepContext.{StepContext}
use Rattle.xp_step.specs.Table.{CallAccepted, CallRequest, ClearRequest}
use Rattle.xp_step.specs.EventOutputs.{EventOutputs}
use Rattle.xp_step.proofs.InForce.{run_sound}
use Rattle.xp_core.proofs.Ledger.{run_booked}

module _ {A : Type 0} (at : StepContext A) (what : What A) (sound : IsSound at.force) where
  -- the line that is taken

  abbrev IsTakenWell : Outcome → Type 0
  IsTakenWell outcome = IfSome (taken_by outcome) (MayTalk at.force at.line)

  plain_taken : (outcome : Outcome) → outcome ≡ Plain → IsTakenWell outcome
  plain_taken outcome is = let P : Outcome → Type 0 = λ o. IsTakenWell o in subst P (sym is) tt

  request_taken : (far : List (Output A)) (asked : Option (CallRequest A)) (outcome : Outcome) (told : EventOutputs A)
      → Requests at.force at.world at.line far asked outcome told → IsTakenWell outcome
  request_taken far None outcome told acts = plain_taken outcome acts.0
  request_taken far (Some request) (Put called setup) told acts =
      let Q : ℕ → Type 0 = λ l. MayTalk at.force at.line l in
      subst Q (sym acts.called_is) (taken_may_join at.force (line_states at.world) at.line request.block acts.ring sound acts.decided)
  request_taken far (Some request) (Refused why) told acts = tt
  request_taken far (Some request) Plain told acts = tt
  request_taken far (Some request) (Connected agreement) told acts = tt
  request_taken far (Some request) (Declined diagnostic) told acts = tt
  request_taken far (Some request) Exceeded told acts = tt

  answer_taken : (accepted : Option (CallAccepted A)) (found : Option (ℕ × Call)) (outcome : Outcome) (told : EventOutputs A)
      → Answers at accepted found outcome told → IsTakenWell outcome
  answer_taken accepted found outcome told acts = grind (arith, plain_taken)

  clear_taken : (clear : Option (ClearRequest A)) (found : Option (ℕ × Call)) (outcome : Outcome) (told : EventOutputs A)
      → Confirms at clear found outcome told → IsTakenWell outcome
  clear_taken clear found outcome told acts = grind (arith, plain_taken)

  carry_taken : (carried : Option (RelayedPacket A)) (past : Bool) (outcome : Outcome) (told : EventOutputs A) → CarriesAs at carried past outcome told → IsTakenWell outcome
  carry_taken carried false outcome told acts = plain_taken outcome acts.0
  carry_taken carried true outcome told acts = let P : Outcome → Type 0 = λ o. IsTakenWell o in subst P (sym acts.0) tt

  taken_joined : (action : Action) (outcome : Outcome) (told : EventOutputs A) → Acts at what action outcome told → IsTakenWell outcome
  taken_joined action outcome told acts = grind (arith, answer_taken, carry_taken, clear_taken, plain_taken, request_taken)

module _ {A : Type 0} (tables : Tables) (history : List (Entry A)) where
  taken_at : IsSound tables → (asking : Moment tables history) → IfSome (taken_by asking.entry.outcome) (MayTalk (in_force tables asking.before) asking.entry.event.line)
  taken_at sound asking = grind (arith, run_sound, taken_joined)

  live_joined : (world : World) → IsSound tables → Run tables history world → (number : ℕ) (call : Call) → call_numbered world number ≡ Some call → IsJoined tables history number call
  live_joined world sound run number call live =
      let begun = (run_booked tables history world run).begun number call live in
      let asking = begun.beginning in
      let P : Option ℕ → Type 0 = λ taken. IfSome taken (MayTalk (in_force tables asking.before) asking.entry.event.line) in
      let Q : ℕ → Type 0 = λ caller. MayTalk (in_force tables asking.before) caller call.called in
      let there : Q asking.entry.event.line = subst P (sym begun.called) (taken_at sound asking) in
      record { asking = asking; request = begun.request; asks = begun.begins; joined = subst Q (sym begun.caller) there }

  pub run_joined : (world : World) → IsSound tables → Run tables history world → AreJoined tables history world
  run_joined world sound run = record { live = live_joined world sound run; taken = taken_at sound }
