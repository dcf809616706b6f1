-- A new call is put to one line or to another: all other lines are told the same, and the states are the same but for these.
use Rattle.std.proofs.Common.{arith, ◌≡◌, ◌≢◌, ℕ, Bool, true, false, cond, eqb, Option, Some, None, List, [], ◌∷◌, ◌++◌, filter, map, refl, ap, sym, get_or-set_other}
use Rattle.std.proofs.lemmas.Bool.{ne_eqb}
use Rattle.std.specs.Prelude.{option_map}
use Rattle.xp_answer.specs.declared.setup.Setup.{Setup}
use Rattle.xp_causes.specs.declared.clearing_cause.TheConstants.{NUMBER_BUSY}
use Rattle.xp_causes.specs.declared.diagnostic.TheConstants.{CALL_COLLISION}
use Rattle.xp_channel.specs.declared.action.Action.{Action}
use Rattle.xp_channel.specs.declared.action.Action.TheVariants.{NewCall, Collision, Answer}
use Rattle.xp_decide.specs.IncomingCalls.{default_window_sizes}
use Rattle.xp_step.specs.declared.event.What.{What}
use Rattle.xp_step.specs.declared.outcome.Outcome.{Outcome}
use Rattle.xp_step.specs.declared.outcome.Outcome.TheVariants.{Plain, Put, Refused, Connected, Declined, Exceeded}
use Rattle.xp_step.specs.declared.output.Output.{Output}
use Rattle.xp_step.specs.Effects.{answers, collides, effects_of, requests}
use Rattle.xp_step.specs.Outcomes.{taken_by, with_line, with_usual_windows}
use Rattle.xp_step.specs.StepContext.{StepContext}
use Rattle.xp_step.specs.Table.{CallRequest, request_in}
use Rattle.xp_machine.specs.Changes.{Begins, Ends, IsFree, all_changed, changed}
use Rattle.xp_machine.specs.World.{Call, World, call_numbered, call_on, line_at}
use Rattle.xp_machine.proofs.Maps.{get_new, get_other}
use Rattle.xp_core.specs.Determined.{IsSameBesides, without_line}
use Rattle.xp_core.specs.OutputsPerLine.{to_line}

-- the same, whichever line is taken
abbrev pub but_line : Outcome → Outcome
but_line outcome = with_line 0 (with_usual_windows outcome)

-- with windows of the usual size
abbrev pub usual : Setup → Setup
usual setup = record setup { indicated = record setup.indicated { window = default_window_sizes } }

-- an output to another line
pub to_others : {A : Type 0} (line : ℕ) (outputs : List (Output A)) (last : Output A) → last.line ≢ line → to_line line (outputs ++ last ∷ []) ≡ to_line line outputs
to_others {A} line [] last other = ap (λ b. map (λ (o : Output A). o.outgoing) (cond b (last ∷ []) [])) (ne_eqb last.line line other)
to_others {A} line (output ∷ outputs) last other =
    let rest : to_line line (outputs ++ last ∷ []) ≡ to_line line outputs = to_others line outputs last other in
    let first : Bool → List (Output A) → List (Output A) = λ b more. cond b (output ∷ filter (λ o. eqb o.line line) more) (filter (λ o. eqb o.line line) more) in
    elim (eqb output.line line) as (λ b. map (λ (o : Output A). o.outgoing) (first b (outputs ++ last ∷ [])) ≡ map (λ (o : Output A). o.outgoing) (first b outputs)) [
      | true ↦ ap (λ more. output.outgoing ∷ more) rest
      | false ↦ rest
    ]

-- ---- the states

module _ {A : Type 0} (at : StepContext A) (what : What A) where
  abbrev leads : Action → Outcome → World
  leads action outcome = all_changed (effects_of at what action outcome) at.world

  module _ (called called' : ℕ) (setup setup' : Setup) (alike : usual setup ≡ usual setup') where
    abbrev Same : World → World → Type 0
    Same next next' = IsSameBesides at.world.next (Put called setup) (Put called' setup') next next'

    unchanged : (next : World) → Same next next
    unchanged next = record { lines = λ line neither. refl; calls = λ old differ. refl; new = refl; number_after = refl }

    module _ (now : World) (request : CallRequest A) where
      abbrev call : ℕ → Setup → Call
      call line made = record { caller = at.line; called = line; dialled = request.block.called; setup = made; requested = at.moment; agreed = None }

      abbrev begun : ℕ → Setup → World
      begun line made = changed (Begins at.line request.identifier line request.block.called made at.moment) now

      begun_same : IsSameBesides now.next (Put called setup) (Put called' setup') (begun called setup) (begun called' setup')
      begun_same = grind (arith, get_new, get_or-set_other, get_other)

    requested : (asked : Option (CallRequest A)) → Same (all_changed (requests at.line at.moment asked (Put called setup)) at.world) (all_changed (requests at.line at.moment asked (Put called' setup')) at.world)
    requested None = unchanged at.world
    requested (Some request) = begun_same at.world request

    collided : (asked : Option (CallRequest A)) (found : Option (ℕ × Call))
        → Same (all_changed (collides at.line at.moment asked found (Put called setup)) at.world) (all_changed (collides at.line at.moment asked found (Put called' setup')) at.world)
    collided None found = unchanged at.world
    collided (Some request) None = begun_same at.world request
    collided (Some request) (Some found) = begun_same (changed (Ends found.0 found.1 at.line IsFree NUMBER_BUSY CALL_COLLISION) at.world) request

    answered : (found : Option (ℕ × Call)) → Same (all_changed (answers at.line found (Put called setup)) at.world) (all_changed (answers at.line found (Put called' setup')) at.world)
    answered found = grind (arith, unchanged)

    puts_same : (action : Action) → Same (leads action (Put called setup)) (leads action (Put called' setup'))
    puts_same NewCall = requested (request_in what)
    puts_same Collision = collided (request_in what) (call_on at.world at.line)
    puts_same Answer = answered (call_on at.world at.line)
    puts_same action = unchanged _

  -- where no line is taken, none is taken
  untaken : (outcome : Outcome) → taken_by (but_line outcome) ≡ None → taken_by outcome ≡ None
  untaken outcome is = grind arith

  abbrev setup_in : Setup → Outcome → Setup
  setup_in other (Put called setup) = setup
  setup_in other outcome = other

  pub besides : (action : Action) (one other : Outcome) → but_line one ≡ but_line other → (taken_by one ≡ taken_by other → one ≡ other)
      → IsSameBesides at.world.next one other (leads action one) (leads action other)
  besides action one other alike whole = by one other alike whole where
    equal : (one other : Outcome) → one ≡ other → IsSameBesides at.world.next one other (leads action one) (leads action other)
    equal one other is = record {
      lines = λ line neither. ap (λ o. line_at (leads action o) line) is;
      calls = λ old differ. ap (λ o. call_numbered (leads action o) old) is;
      new = ap (λ o. option_map without_line (call_numbered (leads action o) at.world.next)) is;
      number_after = ap (λ o. (leads action o).next) is;
    }

    by : (one other : Outcome) → but_line one ≡ but_line other → (taken_by one ≡ taken_by other → one ≡ other)
        → IsSameBesides at.world.next one other (leads action one) (leads action other)
    by (Put called setup) (Put called' setup') alike whole = puts_same called called' setup setup' (ap (setup_in setup) alike) action
    by (Put called setup) Plain alike whole = absurd (cc)
    by (Put called setup) (Refused why) alike whole = absurd (cc)
    by (Put called setup) (Connected agreement) alike whole = absurd (cc)
    by (Put called setup) (Declined diagnostic) alike whole = absurd (cc)
    by (Put called setup) Exceeded alike whole = absurd (cc)
    by Plain other alike whole = equal Plain other (whole (sym (untaken other (sym (ap taken_by alike)))))
    by (Refused why) other alike whole = equal (Refused why) other (whole (sym (untaken other (sym (ap taken_by alike)))))
    by (Connected agreement) other alike whole = equal (Connected agreement) other (whole (sym (untaken other (sym (ap taken_by alike)))))
    by (Declined diagnostic) other alike whole = equal (Declined diagnostic) other (whole (sym (untaken other (sym (ap taken_by alike)))))
    by Exceeded other alike whole = equal Exceeded other (whole (sym (untaken other (sym (ap taken_by alike)))))
