-- Every event has a step.
use Rattle.std.proofs.Common.{◌≡◌, ℕ, ◌+◌, ◌<◌, length, Bool, true, false, Option, Some, None, List, [], refl, arith}
use Rattle.xp_answer.proofs.Every.{one_answer, one_indication}
use Rattle.xp_answer.specs.Answered.{Answered}
use Rattle.xp_answer.specs.Setup.{setup_of}
use Rattle.xp_answer.specs.Terms.{AreTerms}
use Rattle.xp_answer.specs.declared.answer.Answer.{Answer}
use Rattle.xp_answer.specs.declared.answer.Answer.TheVariants as answered
use Rattle.xp_channel.specs.declared.action.Action.{Action}
use Rattle.xp_channel.specs.declared.action.Action.TheVariants.{NewCall, Collision, Answer as Accepting, Confirm, Relayed}
use Rattle.xp_decide.proofs.Exists.{has_verdict}
use Rattle.xp_decide.proofs.Written.{told_can_be_written}
use Rattle.xp_decide.specs.Decided.{Decided}
use Rattle.xp_decide.specs.Written.{CanBeWritten}
use Rattle.xp_decide.specs.declared.verdict.Verdict.{Verdict}
use Rattle.xp_decide.specs.declared.verdict.Verdict.TheVariants.{Take, Refuse}
use Rattle.xp_packets.specs.declared.modulus.Modulus.TheVariants.{Long}
use Rattle.xp_packets.specs.declared.packet.Packet.TheVariants.{Call as CallPacket}
use Rattle.xp_subs.specs.Sound.{IsSound}
use Rattle.xp_subs.specs.Tables.{Tables, address_of, line_count, modulus_of}
use Rattle.xp_step.specs.declared.entry.Entry.{Entry}
use Rattle.xp_step.specs.declared.event.Event.{Event}
use Rattle.xp_step.specs.declared.event.What.{What}
use Rattle.xp_step.specs.declared.outcome.Outcome.{Outcome}
use Rattle.xp_step.specs.declared.outcome.Outcome.TheVariants.{Plain, Put, Refused, Connected, Declined, Exceeded}
use Rattle.xp_step.specs.declared.output.Output.{Output}
use Rattle.xp_step.specs.Acts.{Acts, Answers, CarriesAs, Confirms, IsRequested, Requests, agreement_of, outputs_of_cancel}
use Rattle.xp_machine.specs.World.{line_states, Call, World, call_on}
use Rattle.xp_step.specs.Agreed.{AllHaveTerms}
use Rattle.xp_step.specs.RelayedPackets.{RelayedPacket, relayed_by}
use Rattle.xp_machine.specs.Changes.{recorded_by}
use Rattle.xp_step.specs.Exchange.{IsReadable}
use Rattle.xp_core.specs.Existence.{HasStep}
use Rattle.xp_step.specs.Run.{Run}
use Rattle.xp_step.specs.Worlds.{world_next}
use Rattle.xp_step.specs.Segments.{segments_of}
use Rattle.xp_past.specs.declared.past.Past.{Past}
use Rattle.xp_step.specs.InForce.{brought_by, in_force}
use Rattle.xp_step.proofs.InForce.{brings_again, run_sound}
use Rattle.xp_step.specs.StepContext.{StepContext, step_context}
use Rattle.xp_step.specs.Effects.{changes_of}
use Rattle.xp_step.specs.Table.{CallAccepted, CallRequest, ClearRequest, accepted_in, action_at, clear_in, packet_in, request_in}
use Rattle.xp_step.specs.EventOutputs.{EventOutputs, far_information, outputs_of}
use Rattle.xp_step.proofs.Agreed.{run_agreed, terms_long}
use Rattle.xp_step.proofs.Counting.{far_counts}
use Rattle.xp_core.proofs.Fitting.{request_few}
use Rattle.xp_machine.proofs.InCall.{shown_on}
use Rattle.xp_core.proofs.Sounds.{run_right}

module _ {A : Type 0} where
  -- something is settled and put out
  record HasActs (Does : Outcome → EventOutputs A → Type 0) : Type 0 where
    outcome : Outcome
    told : EventOutputs A
    acts : Does outcome told

  module _ (at : StepContext A) (what : What A) (sound : IsSound at.tables) (sound_now : IsSound at.force) (terms : AllHaveTerms at.tables at.world) (readable : IsReadable what) where
    verdict_acts : (far : List (Output A)) (request : CallRequest A) → request_in what ≡ Some request
        → (verdict : Verdict A) → Decided at.force (line_states at.world) at.line request.block verdict
        → HasActs (IsRequested at.force at.world at.line far request)
    verdict_acts far request asks (Refuse why) decided =
        record { outcome = Refused why; told = _; acts = record { decided = decided; told_is = refl } }
    verdict_acts far request asks (Take ring) decided =
        let written : CanBeWritten ring.told =
        told_can_be_written at.force (line_states at.world) at.line request.block sound_now (request_few what request asks readable) ring decided in
        record {
          outcome = Put ring.line (setup_of ring);
          told = _;
          acts = record {
            ring = ring;
            decided = decided;
            called_is = refl;
            setup_is = refl;
            packet = CallPacket request.d (record {
              called = address_of at.force ring.line;
              calling = address_of at.force at.line;
              facilities = written.field;
              user = request.block.user;
            });
            incoming = record { field = written.field; tells = written.tells; whole = refl };
            told_is = refl;
          };
        }

    request_acts : (far : List (Output A)) (asked : Option (CallRequest A)) → request_in what ≡ asked → HasActs (Requests at.force at.world at.line far asked)
    request_acts far None asks = record { outcome = Plain; told = _; acts = (refl, refl) }
    request_acts far (Some request) asks =
        let it = has_verdict at.force (line_states at.world) at.line request.block in
        verdict_acts far request asks it.verdict it.decided

    answered_acts : (accepted : CallAccepted A) (found : ℕ × Call) (answer : Answer A)
        → Answered found.1.setup (address_of at.force at.line) found.1.dialled accepted.d accepted.block answer
        → HasActs (Answers at (Some accepted) (Some found))
    answered_acts accepted found (answered.Connected connection) is = record {
      outcome = Connected (agreement_of at.moment connection);
      told = _;
      acts = record { connection = connection; answered = is; agreement_is = refl; told_is = refl };
    }
    answered_acts accepted found (answered.Refused diagnostic) is =
        record { outcome = Declined diagnostic; told = _; acts = record { answered = is; told_is = refl } }

    answer_acts : (accepted : Option (CallAccepted A)) (found : Option (ℕ × Call)) → call_on at.world at.line ≡ found
        → HasActs (Answers at accepted found)
    answer_acts None found on = record { outcome = Plain; told = _; acts = (refl, refl) }
    answer_acts (Some accepted) None on = record { outcome = Plain; told = _; acts = (refl, refl) }
    answer_acts (Some accepted) (Some found) on =
        let live = (shown_on at.world at.line found on).1 in
        let indicated : AreTerms Long found.1.setup.indicated = terms_long (modulus_of at.tables found.1.caller) found.1.setup.indicated (terms found.0 found.1 live).0.indicated in
        let it = one_answer found.1.setup (address_of at.force at.line) found.1.dialled accepted.d accepted.block indicated in
        answered_acts accepted found it.some.0 it.some.1

    clear_acts : (clear : Option (ClearRequest A)) (found : Option (ℕ × Call)) → HasActs (Confirms at clear found)
    clear_acts None found = record { outcome = Plain; told = _; acts = (refl, refl) }
    clear_acts (Some clear) None = record { outcome = Plain; told = _; acts = (refl, refl) }
    clear_acts (Some clear) (Some found) =
        let it = one_indication found.1.setup.fast clear.cause clear.diagnostic clear.block (far_information at (Some found)) (far_counts at sound (Some found)) in record {
          outcome = Plain;
          told = _;
          acts = record { plain = refl; packet = it.some.0; carried = it.some.1; told_is = refl };
        }

    carry_acts : (carried : Option (RelayedPacket A)) (past : Bool) → HasActs (CarriesAs at carried past)
    carry_acts carried false = record { outcome = Plain; told = _; acts = (refl, refl) }
    carry_acts carried true = record { outcome = Exceeded; told = _; acts = (refl, refl) }

    has_acts : (action : Action) → HasActs (Acts at what action)
    has_acts NewCall = request_acts [] (request_in what) refl
    has_acts Collision = request_acts (outputs_of_cancel at.world at.line) (request_in what) refl
    has_acts Accepting = answer_acts (accepted_in what) (call_on at.world at.line) refl
    has_acts Confirm = clear_acts (clear_in what) (call_on at.world at.line)
    has_acts Relayed = carry_acts (relayed_by at.line (call_on at.world at.line) (packet_in what)) _
    has_acts action = record { outcome = Plain; told = _; acts = (refl, refl) }

  pub has_step : (tables : Tables) (history : List (Entry A)) (world : World) (event : Event A) → IsSound tables → Run tables history world
      → event.line < line_count tables → IsReadable event.what → HasStep tables history world event
  has_step tables history world event sound run line readable =
      let at : StepContext A = step_context tables history world event.line event.moment in
      let none : Past Tables = record { of = record {}; items = [] } in
      let it = has_acts at event.what sound (run_sound tables history world sound run) (run_agreed tables history world run) readable (action_at world event) in
      let entry : Entry A = record {
        number = length history + 1;
        event = event;
        outcome = it.outcome;
        outputs = outputs_of it.told;
        records = record {
          items = recorded_by (segments_of tables history) event.moment world (changes_of tables history world (record {
            number = length history + 1;
            event = event;
            outcome = it.outcome;
            outputs = [];
            records = record { items = []; room = 0 };
            tables = none;
          }));
          room = 0;
        };
        tables = record { of = record {}; items = brought_by event.what (in_force tables history) };
      } in
      record {
        entry = entry;
        next = world_next tables history world entry;
        event_is = refl;
        step = grind (arith, brings_again, run_right, run_sound);
      }
