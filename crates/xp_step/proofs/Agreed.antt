-- The sizes of the live calls are in their ranges.
use Rattle.std.proofs.Common.{◌≡◌, ℕ, Some, None, List, [], ◌∷◌, ◌++◌, sym, subst, inl, inr, arith}
use Rattle.std.specs.FinMap.{get-empty}
use Rattle.std.specs.List.{AllByRecursion}
use Rattle.std.specs.Ordering.{nat_cmp}
use Rattle.xp_answer.proofs.Ready.{indicated_terms}
use Rattle.xp_answer.proofs.Settled.{connection_settled}
use Rattle.xp_answer.specs.Terms.{AreSettled, AreTerms}
use Rattle.xp_answer.specs.declared.setup.Setup.{Setup}
use Rattle.xp_answer.specs.declared.terms.Terms.{Terms}
use Rattle.xp_decide.proofs.Written.{told_sizes}
use Rattle.xp_decide.specs.Indicated.{IndicatesSizes}
use Rattle.xp_packets.specs.declared.modulus.Modulus.{Modulus}
use Rattle.xp_packets.specs.declared.modulus.Modulus.TheVariants.{Long}
use Rattle.xp_subs.specs.Tables.{Tables, line_count, modulus_of}
use Rattle.xp_step.specs.declared.entry.Entry.{Entry}
use Rattle.xp_step.specs.declared.event.What.{What}
use Rattle.xp_machine.specs.declared.agreement.Agreement.{Agreement}
use Rattle.xp_machine.specs.World.{line_states, Call, World, call_numbered, opening}
use Rattle.xp_step.specs.Agreed.{AllHaveTerms, HasTerms}
use Rattle.xp_machine.specs.Changes.{Change, Rises, Leaves, Begins, IsRefused, Connects, Ends, all_changed, changed}
use Rattle.xp_step.specs.Run.{Run}
use Rattle.xp_step.specs.StepContext.{StepContext, step_context}
use Rattle.xp_step.specs.Step.{Step}
use Rattle.xp_step.specs.Effects.{changes_of}
use Rattle.xp_step.specs.Table.{action_at}
use Rattle.xp_machine.proofs.Maps.{new_or_old, was_there}
use Rattle.xp_reload.proofs.Same.{frame_kept, modulus_kept}
use Rattle.xp_reload.specs.Frame.{IsSameFrame}
use Rattle.xp_step.specs.InForce.{in_force}
use Rattle.xp_step.proofs.InForce.{step_frame}
use Rattle.xp_step.proofs.Origins.{ComesOf, IsBegun, IsConnection, all_come}
use Rattle.xp_step.proofs.RunLemmas.{run_keeps}

-- what is in its range on any line is in that of a line of modulo 128
pub terms_long : (modulus : Modulus) (terms : Terms) → AreTerms modulus terms → AreTerms Long terms
terms_long modulus terms are = grind arith

module _ {A : Type 0} (at : StepContext A) (what : What A) (moduli : (line : ℕ) → modulus_of at.force line ≡ modulus_of at.tables line) (here : AllHaveTerms at.tables at.world) where
  begun_terms : (modulus : Modulus) (line identifier called : ℕ) (dialled : List ℕ) (setup : Setup) (requested : ℕ) (from : IsBegun at what line identifier called dialled setup)
      → IndicatesSizes modulus from.ring.told → HasTerms modulus (record { caller = line; called = called; dialled = dialled; setup = setup; requested = requested; agreed = None })
  begun_terms modulus line identifier called dialled setup requested from sizes = grind (arith, indicated_terms)

  -- for the caller's line and for the called one
  both_begun : (line identifier called : ℕ) (dialled : List ℕ) (setup : Setup) (requested : ℕ) → IsBegun at what line identifier called dialled setup
      → let call : Call = record { caller = line; called = called; dialled = dialled; setup = setup; requested = requested; agreed = None } in
      HasTerms (modulus_of at.tables line) call × HasTerms (modulus_of at.tables called) call
  both_begun line identifier called dialled setup requested from =
      let both = told_sizes at.force (line_states at.world) at.line from.asked.request.block from.ring from.decided in
      let P : ℕ → Type 0 = λ l. IndicatesSizes (modulus_of at.tables l) from.ring.told in
      let here_too : (l : ℕ) → IndicatesSizes (modulus_of at.force l) from.ring.told → P l = λ l. subst (λ modulus. IndicatesSizes modulus from.ring.told) (moduli l) in (
        begun_terms (modulus_of at.tables line) line identifier called dialled setup requested from (subst P (sym from.asked.line_is) (here_too at.line both.0)),
        begun_terms (modulus_of at.tables called) line identifier called dialled setup requested from (subst P (sym from.called_is) (here_too from.ring.line both.1)),
      )

  connected_terms : (modulus : Modulus) (number : ℕ) (call : Call) (agreement : Agreement) → IsConnection at number call agreement → HasTerms modulus call
      → HasTerms modulus (record call { agreed = Some agreement })
  connected_terms modulus number call agreement from old =
      let P : Agreement → Type 0 = λ a. AreSettled modulus call.setup.indicated a.terms in
      record {
        indicated = old.indicated;
        agreed = subst P (sym from.agreement_is)
            (connection_settled modulus call.setup _ call.dialled from.answer.d from.answer.block from.answered.0 from.connection old.indicated from.answered.1 from.answered.2);
      }

  both_connected : (number : ℕ) (call : Call) (agreement : Agreement) → IsConnection at number call agreement
      → HasTerms (modulus_of at.tables call.caller) (record call { agreed = Some agreement }) × HasTerms (modulus_of at.tables call.called) (record call { agreed = Some agreement })
  both_connected number call agreement from =
      let old = here number call from.live in (
        connected_terms (modulus_of at.tables call.caller) number call agreement from old.0,
        connected_terms (modulus_of at.tables call.called) number call agreement from old.1,
      )

  abbrev HaveTerms : Call → Type 0
  HaveTerms call = HasTerms (modulus_of at.tables call.caller) call × HasTerms (modulus_of at.tables call.called) call

  changed_terms : (change : Change) (world : World) → ComesOf at what change → AllHaveTerms at.tables world → AllHaveTerms at.tables (changed change world)
  changed_terms (Rises line) world from terms = terms
  changed_terms (Leaves line way) world from terms = terms
  changed_terms (IsRefused line identifier dialled why) world from terms = terms
  changed_terms (Begins line identifier called dialled setup requested) world from terms = λ number call is.
      let made : Call = record { caller = line; called = called; dialled = dialled; setup = setup; requested = requested; agreed = None } in
      elim (new_or_old world.calls world.next made number call is) [
        | inl new ↦ subst HaveTerms new.1 (both_begun line identifier called dialled setup requested from)
        | inr old ↦ terms number call old.1
      ]
  changed_terms (Connects number call agreement) world from terms = λ n c is.
      elim (new_or_old world.calls number (record call { agreed = Some agreement }) n c is) [
        | inl new ↦ subst HaveTerms new.1 (both_connected number call agreement from)
        | inr old ↦ terms n c old.1
      ]
  changed_terms (Ends number call line way cause diagnostic) world from terms = λ n c is.
      terms n c (was_there world.calls number n c is).1

  all_changed_terms : (changes : List Change) (world : World) → AllByRecursion (ComesOf at what) changes → AllHaveTerms at.tables world → AllHaveTerms at.tables (all_changed changes world)
  all_changed_terms [] world from terms = terms
  all_changed_terms (change ∷ changes) world from terms =
      all_changed_terms changes (changed change world) from.1 (changed_terms change world from.0 terms)

module _ {A : Type 0} where
  -- the sizes, and the frame of the tables in force
  abbrev Agree : Tables → List (Entry A) → World → Type 0
  Agree tables before world = IsSameFrame tables (in_force tables before) × AllHaveTerms tables world

  step_agreed : (tables : Tables) (before : List (Entry A)) (world : World) (entry : Entry A) (next : World)
      → Agree tables before world → Step tables before world entry next → Agree tables (before ++ entry ∷ []) next
  step_agreed tables before world entry next (frame, terms) step =
      let at : StepContext A = step_context tables before world entry.event.line entry.event.moment in
      let P : World → Type 0 = λ w. AllHaveTerms tables w in (
        step_frame tables before world entry next frame step,
        subst P (sym step.leads)
            (all_changed_terms at entry.event.what (modulus_kept tables (in_force tables before) frame) terms (changes_of tables before world entry) world
            (all_come at entry.event.what (action_at world entry.event) entry.outcome step.told step.acts) terms),
      )

  pub run_agreed : (tables : Tables) (history : List (Entry A)) (world : World) → Run tables history world → AllHaveTerms tables world
  run_agreed tables history world run =
      (run_keeps (Agree tables) tables (step_agreed tables) [] (opening (line_count tables)) history world
      (frame_kept tables, λ number call is. let none : call_numbered (opening (line_count tables)) number ≡ None = get-empty nat_cmp number in absurd (cc)) run).1
