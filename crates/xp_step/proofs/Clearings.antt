-- What is planned for a clear request and for an answer.
use Rattle.std.proofs.Common.{arith, ◌≡◌, ◌∙◌, ◌<◌, ℕ, Option, Some, None, List, [], ◌∷◌, refl, ap, sym, subst}
use Rattle.xp_answer.specs.Answered.{Answered}
use Rattle.xp_answer.specs.Terms.{AreSettled, AreTerms}
use Rattle.xp_answer.specs.declared.answer.Answer.{Answer}
use Rattle.xp_answer.specs.declared.answer.Answer.TheVariants as answers
use Rattle.xp_answer.specs.declared.connection.Connection.{Connection}
use Rattle.xp_causes.specs.declared.clearing_cause.TheConstants.{REMOTE_PROCEDURE_ERROR}
use Rattle.xp_charge.specs.Meter.{opening}
use Rattle.xp_relay.specs.Coupled.{coupled}
use Rattle.xp_packets.specs.declared.modulus.Modulus.{Modulus}
use Rattle.xp_packets.specs.declared.modulus.Modulus.TheVariants.{Long}
use Rattle.xp_relay.specs.Terms.{IsWithinTerms}
use Rattle.xp_subs.specs.Tables.{Tables, address_of, line_count, modulus_of}
use Rattle.xp_machine.specs.declared.call.LiveCall.{LiveCall}
use Rattle.xp_step.specs.declared.outcome.Outcome.{Outcome}
use Rattle.xp_step.specs.declared.outcome.Outcome.TheVariants.{Plain, Connected, Declined}
use Rattle.xp_step.specs.declared.output.Output.{Output}
use Rattle.xp_step.specs.declared.plan.Plan.{Plan}
use Rattle.xp_machine.specs.declared.relays.RelayUpdate.{RelayUpdate}
use Rattle.xp_step.specs.Acts.{Answers, IsConfirmed, agreement_of, outputs_of_clear, outputs_of_answer, outputs_of_error}
use Rattle.xp_step.specs.Agreed.{AllHaveTerms, HasTerms}
use Rattle.xp_machine.specs.declared.agreement.Agreement.{Agreement}
use Rattle.xp_machine.specs.Changes.{Change, Connects, IsCleared}
use Rattle.xp_machine.specs.Coupling.{AreCoupled, IsHeld}
use Rattle.xp_machine.specs.StoredState.{call_of_stored, entry_of}
use Rattle.xp_step.specs.Plan.{IsPlan}
use Rattle.xp_step.specs.steps.Branches.{IsPlainPlan, IsToldOn, PlansAnswer, PlansClear}
use Rattle.xp_step.specs.RelayedPackets.{relay_terms}
use Rattle.xp_step.specs.Effects.{answers as answered_by, confirms, leaves}
use Rattle.xp_step.specs.Relays.{IsRelayed, RelaysFor}
use Rattle.xp_step.specs.StepContext.{StepContext}
use Rattle.xp_step.specs.Table.{CallAccepted, ClearRequest}
use Rattle.xp_step.specs.EventOutputs.{EventOutputs, no_outputs}
use Rattle.xp_machine.specs.World.{Call, World, call_on}
use Rattle.xp_machine.proofs.InCall.{shown_on}
use Rattle.xp_machine.proofs.Terms.{terms_within}
use Rattle.xp_step.proofs.Agreed.{terms_long}
use Rattle.xp_step.proofs.Quiet.{leaves_quiet}

module _ {A : Type 0} (at : StepContext A) (clear : ClearRequest A) (plan : Plan A) (far : List (Output A)) where
  confirms_as : (found : Option (ℕ × Call)) → plan.outcome ≡ Plain → IsToldOn at clear found far → IsConfirmed at clear found plan.outcome (outputs_of_clear at found far)
  confirms_as found plain told = grind arith

  pub confirmed : plan.outcome ≡ Plain → plan.relay_update ≡ None → IsToldOn at clear (call_on at.world at.line) far
      → IsPlan plan at (outputs_of_clear at (call_on at.world at.line) far) (confirms at.line (Some clear) (call_on at.world at.line)) → PlansClear at clear plan
  confirmed plain quiet told planned = grind (arith, confirms_as, leaves_quiet)

module _ {A : Type 0} (at : StepContext A) (answer : CallAccepted A) (plan : Plan A) where
  abbrev Acts : EventOutputs A → Option (ℕ × Call) → Outcome → Type 0
  Acts told found outcome = Answers at (Some answer) found outcome told

  abbrev Planned : EventOutputs A → Option (ℕ × Call) → Outcome → Type 0
  Planned told found outcome = IsPlan plan at told (answered_by at.line found outcome)

  -- the relay that an answer needs
  abbrev Settled : Option (ℕ × Call) → Outcome → Type 0
  Settled found outcome = RelaysFor at.tables (answered_by at.line found outcome) plan.relay_update

  pub not_called : None ≡ call_on at.world at.line → plan.outcome ≡ Plain → plan.relay_update ≡ None → IsPlan plan at no_outputs [] → PlansAnswer at answer plan
  not_called is plain quiet planned = record {
    relays = subst (λ found. Settled found plan.outcome) is quiet;
    told = no_outputs;
    acts = subst (λ found. Acts no_outputs found plan.outcome) is (plain, refl);
    planned = subst (λ found. Planned no_outputs found plan.outcome) is planned;
  }

  module _ (call : LiveCall) (is : Some (entry_of call) ≡ call_on at.world at.line) (address : List ℕ)
      (force : Tables) (in_force : force ≡ at.force) (address_is : address ≡ address_of force at.line)
      (given : Answer A) (answered : Answered call.setup address call.dialled answer.d answer.block given) where
    abbrev IsGiven : Answer A → Type 0
    IsGiven a = Answered call.setup (address_of at.force at.line) call.dialled answer.d answer.block a

    given_is : (a : Answer A) → given ≡ a → IsGiven a
    given_is a same = grind arith

    pub connected : (connection : Connection A) → given ≡ answers.Connected connection → plan.outcome ≡ Connected (agreement_of at.moment connection)
        → IsRelayed (call_of_stored call) (coupled (relay_terms at.tables (call_of_stored call) (agreement_of at.moment connection))) (opening at.tables.segment_limit) plan.relay_update
        → IsPlan plan at (outputs_of_answer at.world call.caller connection.packet) (Connects call.number (call_of_stored call) (agreement_of at.moment connection) ∷ [])
        → PlansAnswer at answer plan
    connected connection same outcome relayed planned =
        let told = outputs_of_answer at.world call.caller connection.packet in
        record {
          relays = subst (λ found. Settled found plan.outcome) is (subst (Settled (Some (entry_of call))) (sym outcome) relayed);
          told = told;
          acts = grind (arith, given_is);
          planned = subst (λ found. Planned told found plan.outcome) is (subst (Planned told (Some (entry_of call))) (sym outcome) planned);
        }

    pub declined : (diagnostic : ℕ) → given ≡ answers.Refused diagnostic → plan.outcome ≡ Declined diagnostic → plan.relay_update ≡ None
        → IsPlan plan at (outputs_of_error at diagnostic) (leaves at.line IsCleared REMOTE_PROCEDURE_ERROR diagnostic (call_on at.world at.line) ∷ [])
        → PlansAnswer at answer plan
    declined diagnostic same outcome quiet planned =
        let told : EventOutputs A = outputs_of_error at diagnostic in
        let Q : Option (ℕ × Call) → Type 0 = λ found. IsPlan plan at told (leaves at.line IsCleared REMOTE_PROCEDURE_ERROR diagnostic found ∷ []) in
        record {
          relays = subst (λ found. Settled found plan.outcome) is (subst (Settled (Some (entry_of call))) (sym outcome) quiet);
          told = told;
          acts = subst (λ found. Acts told found plan.outcome) is (subst (Acts told (Some (entry_of call))) (sym outcome) (record {
            answered = given_is (answers.Refused diagnostic) same;
            told_is = refl;
          }));
          planned = subst (λ found. Planned told found plan.outcome) is (subst (Planned told (Some (entry_of call))) (sym outcome) (subst Q (sym is) planned));
        }

module _ (tables : Tables) (world : World) (line : ℕ) (call : LiveCall) (is : Some (entry_of call) ≡ call_on world line) where
  its_terms : AllHaveTerms tables world → HasTerms (modulus_of tables call.caller) (call_of_stored call) × HasTerms (modulus_of tables call.called) (call_of_stored call)
  its_terms terms = terms call.number (call_of_stored call) (shown_on world line (entry_of call) (sym is)).1

  -- the sizes that the line's call indicated are in their ranges
  pub indicated : AllHaveTerms tables world → AreTerms Long call.setup.indicated
  indicated terms = terms_long (modulus_of tables call.caller) call.setup.indicated (its_terms terms).0.indicated

  -- and so are those that its answer settles
  pub settled_within : AllHaveTerms tables world → (agreement : Agreement)
      → ((modulus : Modulus) → AreTerms modulus call.setup.indicated → AreSettled modulus call.setup.indicated agreement.terms)
      → IsWithinTerms (relay_terms tables (call_of_stored call) agreement)
  settled_within terms agreement settled = grind (arith, indicated, its_terms, terms_within)

  -- its lines are those of the subscriptions
  its_ends : AreCoupled tables world → IsHeld tables world call.number (call_of_stored call)
  its_ends coupled = coupled.held call.number (call_of_stored call) (shown_on world line (entry_of call) (sym is)).1

  pub caller_within : AreCoupled tables world → call.caller < line_count tables
  caller_within coupled = (its_ends coupled).caller

  pub called_within : AreCoupled tables world → call.called < line_count tables
  called_within coupled = (its_ends coupled).called

-- with another outcome the rest of a plan is the same
pub settled_otherwise : {A : Type 0} (plan : Plan A) (outcome : Outcome) (next : Plan A) (at : StepContext A) (told : EventOutputs A) (changes : List Change)
    → next ≡ record plan { outcome = outcome } → IsPlainPlan plan at told changes → IsPlan next at told changes
settled_otherwise {A} plan outcome next at told changes is planned = grind arith

-- and it needs no relay
pub quiet_otherwise : {A : Type 0} (plan : Plan A) (outcome : Outcome) (next : Plan A) (at : StepContext A) (told : EventOutputs A) (changes : List Change)
    → next ≡ record plan { outcome = outcome } → IsPlainPlan plan at told changes → next.relay_update ≡ None
quiet_otherwise plan outcome next at told changes is planned = ap (λ p. p.relay_update) is ∙ planned.quiet

-- with another relay too
pub carried_otherwise : {A : Type 0} (plan : Plan A) (relay_update : Option (RelayUpdate A)) (next : Plan A) (at : StepContext A) (told : EventOutputs A) (changes : List Change)
    → next ≡ record plan { relay_update = relay_update } → IsPlan plan at told changes → IsPlan next at told changes
carried_otherwise {A} plan relay_update next at told changes is planned = grind arith
