-- What is planned for a call request, by the decision.
use Rattle.std.proofs.Common.{◌≡◌, ◌∙◌, ℕ, None, Some, List, [], ◌∷◌, ◌++◌, refl, ap, sym, subst}
use Rattle.xp_answer.specs.Incoming.{IsIncomingCall}
use Rattle.xp_answer.specs.Setup.{setup_of}
use Rattle.xp_answer.specs.declared.setup.Setup.{Setup}
use Rattle.xp_causes.specs.declared.refusal.Refusal.{Refusal}
use Rattle.xp_decide.specs.Decided.{Decided}
use Rattle.xp_decide.specs.declared.verdict.IncomingCall.{IncomingCall}
use Rattle.xp_decide.specs.declared.verdict.Verdict.{Verdict}
use Rattle.xp_decide.specs.declared.verdict.Verdict.TheVariants.{Take, Refuse}
use Rattle.xp_packets.specs.declared.packet.Packet.{Packet}
use Rattle.xp_subs.specs.Tables.{Tables, address_of}
use Rattle.xp_step.specs.declared.outcome.Outcome.{Outcome}
use Rattle.xp_step.specs.declared.outcome.Outcome.TheVariants.{Put, Refused}
use Rattle.xp_step.specs.declared.output.Output.{Output}
use Rattle.xp_step.specs.declared.plan.Plan.{Plan}
use Rattle.xp_step.specs.Acts.{IsRequested}
use Rattle.xp_machine.specs.World.{line_states}
use Rattle.xp_machine.specs.Changes.{Change, Begins, IsRefused}
use Rattle.xp_step.specs.Plan.{IsPlan}
use Rattle.xp_step.specs.steps.Branches.{PlansRequest}
use Rattle.xp_step.specs.Effects.{requests}
use Rattle.xp_step.specs.StepContext.{StepContext}
use Rattle.xp_step.specs.Table.{CallRequest}
use Rattle.xp_step.specs.EventOutputs.{EventOutputs, outputs_of_refusal, outputs_of_incoming_call}

module _ {A : Type 0} (at : StepContext A) (request : CallRequest A) (ended : List Change) (far : List (Output A)) (plan : Plan A) (verdict : Verdict A)
    (force : Tables) (in_force : force ≡ at.force) (decided : Decided force (line_states at.world) at.line request.block verdict) where
  abbrev Acts : EventOutputs A → Outcome → Type 0
  Acts told outcome = IsRequested at.force at.world at.line far request outcome told

  abbrev Planned : EventOutputs A → Outcome → Type 0
  Planned told outcome = IsPlan plan at told (ended ++ requests at.line at.moment (Some request) outcome)

  abbrev IsOf : Verdict A → Type 0
  IsOf v = Decided at.force (line_states at.world) at.line request.block v

  decided_here : IsOf verdict
  decided_here = let P : Tables → Type 0 = λ t. Decided t (line_states at.world) at.line request.block verdict in subst P in_force decided

  pub turned_down : (why : Refusal) → verdict ≡ Refuse why → plan.outcome ≡ Refused why → plan.relay_update ≡ None
      → IsPlan plan at (outputs_of_refusal at.world far at.line request.identifier why) (ended ++ IsRefused at.line request.identifier request.block.called why ∷ [])
      → PlansRequest at request ended far plan
  turned_down why is outcome quiet planned = let told = outputs_of_refusal at.world far at.line request.identifier why in record {
    told = told;
    acts = subst (Acts told) (sym outcome) (record { decided = subst IsOf is decided_here; told_is = refl });
    quiet = quiet;
    planned = subst (Planned told) (sym outcome) planned;
  }

  pub put_through : (ring : IncomingCall A) (called calling : List ℕ) (packet : Packet A) (setup : Setup) → verdict ≡ Take ring
      → called ≡ address_of force ring.line → calling ≡ address_of force at.line
      → IsIncomingCall ring called calling request.d request.block packet → setup ≡ setup_of ring → plan.outcome ≡ Put ring.line setup → plan.relay_update ≡ None
      → IsPlan plan at (outputs_of_incoming_call at.world far ring.line packet) (ended ++ Begins at.line request.identifier ring.line request.block.called setup at.moment ∷ [])
      → PlansRequest at request ended far plan
  put_through ring called calling packet setup is called_is calling_is incoming setup_is outcome quiet planned =
      let told = outputs_of_incoming_call at.world far ring.line packet in
      let P : List ℕ → Type 0 = λ address. IsIncomingCall ring address calling request.d request.block packet in
      let Q : List ℕ → Type 0 = λ address. IsIncomingCall ring (address_of at.force ring.line) address request.d request.block packet in
      record {
        told = told;
        acts = subst (Acts told) (sym outcome) (record {
          ring = ring;
          decided = subst IsOf is decided_here;
          called_is = refl;
          setup_is = setup_is;
          packet = packet;
          incoming = subst Q (calling_is ∙ ap (λ t. address_of t at.line) in_force) (subst P (called_is ∙ ap (λ t. address_of t ring.line) in_force) incoming);
          told_is = refl;
        });
        quiet = quiet;
        planned = subst (Planned told) (sym outcome) planned;
      }
