-- What is planned for an event, by what the table of actions has for it.
use Rattle.std.proofs.Common.{arith, ◌≡◌, ℕ, IfOk, Result, Option, None, Some, List, [], ◌∷◌, refl, subst, sym}
use Rattle.xp_causes.specs.declared.clearing_cause.TheConstants.{OUT_OF_ORDER, REMOTE_PROCEDURE_ERROR}
use Rattle.xp_causes.specs.declared.diagnostic.TheConstants.{NO_ADDITIONAL_INFORMATION, TIMER_EXPIRED_FOR_INCOMING_CALL}
use Rattle.xp_channel.specs.declared.action.Action.{Action}
use Rattle.xp_channel.specs.declared.action.Action.TheVariants.{Nothing, Rise, Fall, NewCall, Collision, Answer as Accepting, Confirm, Free, Error, Relayed, Expired}
use Rattle.xp_step.specs.declared.event.What.{What}
use Rattle.xp_step.specs.declared.outcome.Outcome.TheVariants.{Plain}
use Rattle.xp_step.specs.declared.plan.Plan.{Plan}
use Rattle.xp_step.specs.Acts.{Answers, Confirms, IsPlain, Requests, outputs_of_cancel, outputs_of_error, outputs_of_fall}
use Rattle.xp_machine.specs.Changes.{Change, GoesOut, IsCleared, IsFree, Leaves, Rises}
use Rattle.xp_step.specs.Plan.{IsPlan, Plans}
use Rattle.xp_step.specs.steps.Branches.{IsPlainPlan, PlansAnswer, PlansRelayed, PlansClear, PlansRequest}
use Rattle.xp_step.specs.Relays.{RelaysFor}
use Rattle.xp_step.specs.StepContext.{StepContext}
use Rattle.xp_step.specs.Effects.{answers, cancels, collides, confirms, leaves, requests}
use Rattle.xp_step.specs.Table.{CallAccepted, CallRequest, ClearRequest, accepted_in, clear_in, request_in}
use Rattle.xp_step.specs.EventOutputs.{EventOutputs, no_outputs}
use Rattle.xp_machine.specs.World.{Call, call_on}
use Rattle.xp_step.proofs.Quiet.{collides_quiet, leaves_quiet, requests_quiet}

if_ok : {X E : Type 0} (result : Result X E) (P Q : X → Type 0) → ((x : X) → P x → Q x) → IfOk result P → IfOk result Q
if_ok result P Q leads holds = grind arith

unanswered : (line : ℕ) (found : Option (ℕ × Call)) → [] ≡ answers line found Plain
unanswered line found = grind arith

module _ {A E : Type 0} (at : StepContext A) (what : What A) (action : Action) (result : Result (Plan A) E) where
  abbrev pub ArePlanned : Action → Type 0
  ArePlanned act = IfOk result (Plans at what act)

  pub as_acted : (act : Action) → act ≡ action → ArePlanned act → ArePlanned action
  as_acted act is planned = subst ArePlanned is planned

  abbrev PlainOf : EventOutputs A → List Change → Type 0
  PlainOf told changes = IfOk result (λ plan. IsPlainPlan plan at told changes)

  plain : (told : EventOutputs A) (plan : Plan A) (changes : List Change) → IsPlainPlan plan at told changes → IsPlain told plan.outcome told
  plain told plan changes planned = (planned.plain, refl)

  pub nothing_planned : Nothing ≡ action → PlainOf no_outputs [] → ArePlanned action
  nothing_planned is planned = subst ArePlanned is (if_ok result _ _ (λ plan p. record { told = no_outputs; acts = plain no_outputs plan [] p; relays = p.quiet; planned = p.planned }) planned)

  pub relayed_planned : Relayed ≡ action → IfOk result (PlansRelayed at what) → ArePlanned action
  relayed_planned is planned = grind (arith, if_ok)

  pub rise_planned : Rise ≡ action → PlainOf no_outputs (Rises at.line ∷ []) → ArePlanned action
  rise_planned is planned = subst ArePlanned is (if_ok result _ _ (λ plan p. record { told = no_outputs; acts = plain no_outputs plan _ p; relays = p.quiet; planned = p.planned }) planned)

  pub free_planned : Free ≡ action → PlainOf no_outputs (Leaves at.line IsFree ∷ []) → ArePlanned action
  free_planned is planned = subst ArePlanned is (if_ok result _ _ (λ plan p. record { told = no_outputs; acts = plain no_outputs plan _ p; relays = p.quiet; planned = p.planned }) planned)

  pub fall_planned : Fall ≡ action
      → PlainOf (outputs_of_fall at what) (leaves at.line GoesOut OUT_OF_ORDER NO_ADDITIONAL_INFORMATION (call_on at.world at.line) ∷ []) → ArePlanned action
  fall_planned is planned = subst ArePlanned is (if_ok result _ _
      (λ plan p. record { told = outputs_of_fall at what; acts = plain (outputs_of_fall at what) plan _ p; relays = leaves_quiet at.tables at.line _ _ _ (call_on at.world at.line) plan.relay_update p.quiet; planned = p.planned }) planned)

  pub error_planned : (diagnostic : ℕ) → Error diagnostic ≡ action
      → PlainOf (outputs_of_error at diagnostic) (leaves at.line IsCleared REMOTE_PROCEDURE_ERROR diagnostic (call_on at.world at.line) ∷ []) → ArePlanned action
  error_planned diagnostic is planned = subst ArePlanned is (if_ok result _ _
      (λ plan p. record { told = outputs_of_error at diagnostic; acts = plain (outputs_of_error at diagnostic) plan _ p; relays = leaves_quiet at.tables at.line _ _ _ (call_on at.world at.line) plan.relay_update p.quiet; planned = p.planned }) planned)

  pub expired_planned : Expired ≡ action
      → PlainOf (outputs_of_error at TIMER_EXPIRED_FOR_INCOMING_CALL) (leaves at.line IsCleared REMOTE_PROCEDURE_ERROR TIMER_EXPIRED_FOR_INCOMING_CALL (call_on at.world at.line) ∷ [])
      → ArePlanned action
  expired_planned is planned = subst ArePlanned is (if_ok result _ _
      (λ plan p. record { told = outputs_of_error at TIMER_EXPIRED_FOR_INCOMING_CALL; acts = plain (outputs_of_error at TIMER_EXPIRED_FOR_INCOMING_CALL) plan _ p; relays = leaves_quiet at.tables at.line _ _ _ (call_on at.world at.line) plan.relay_update p.quiet; planned = p.planned }) planned)

  pub answer_planned : (answer : CallAccepted A) → Accepting ≡ action → Some answer ≡ accepted_in what → IfOk result (PlansAnswer at answer) → ArePlanned action
  answer_planned answer is asks planned = grind (arith, if_ok)

  pub confirm_planned : (clear : ClearRequest A) → Confirm ≡ action → Some clear ≡ clear_in what → IfOk result (PlansClear at clear) → ArePlanned action
  confirm_planned clear is asks planned = grind (arith, if_ok)

  pub request_planned : (request : CallRequest A) → NewCall ≡ action → Some request ≡ request_in what
      → IfOk result (PlansRequest at request [] []) → ArePlanned action
  request_planned request is asks planned = grind (arith, if_ok, requests_quiet)

  pub collision_planned : (request : CallRequest A) → Collision ≡ action → Some request ≡ request_in what
      → IfOk result (PlansRequest at request (cancels at.line (call_on at.world at.line)) (outputs_of_cancel at.world at.line)) → ArePlanned action
  collision_planned request is asks planned = grind (arith, collides_quiet, if_ok)

  pub no_request_planned : None ≡ request_in what → PlainOf no_outputs [] → ArePlanned NewCall
  no_request_planned lacks planned = if_ok result _ _ (λ plan p.
      let P : Option (CallRequest A) → Type 0 = λ asked. Requests at.force at.world at.line [] asked plan.outcome no_outputs in
      let R : Option (CallRequest A) → Type 0 = λ asked. RelaysFor at.tables (requests at.line at.moment asked plan.outcome) plan.relay_update in
      let Q : Option (CallRequest A) → Type 0 = λ asked. IsPlan plan at no_outputs (requests at.line at.moment asked plan.outcome) in
      record { told = no_outputs; acts = subst P lacks (plain no_outputs plan [] p); relays = subst R lacks p.quiet; planned = subst Q lacks p.planned }) planned

  pub no_collision_planned : None ≡ request_in what → PlainOf no_outputs [] → ArePlanned Collision
  no_collision_planned lacks planned = if_ok result _ _ (λ plan p.
      let P : Option (CallRequest A) → Type 0 = λ asked. Requests at.force at.world at.line (outputs_of_cancel at.world at.line) asked plan.outcome no_outputs in
      let R : Option (CallRequest A) → Type 0 = λ asked. RelaysFor at.tables (collides at.line at.moment asked (call_on at.world at.line) plan.outcome) plan.relay_update in
      let Q : Option (CallRequest A) → Type 0 = λ asked. IsPlan plan at no_outputs (collides at.line at.moment asked (call_on at.world at.line) plan.outcome) in
      record { told = no_outputs; acts = subst P lacks (plain no_outputs plan [] p); relays = subst R lacks p.quiet; planned = subst Q lacks p.planned }) planned

  pub no_answer_planned : None ≡ accepted_in what → PlainOf no_outputs [] → ArePlanned Accepting
  no_answer_planned lacks planned = if_ok result _ _ (λ plan p.
      let found = call_on at.world at.line in
      let P : Option (CallAccepted A) → Type 0 = λ asked. Answers at asked found plan.outcome no_outputs in
      let R : List Change → Type 0 = λ changes. RelaysFor at.tables changes plan.relay_update in
      let none : [] ≡ answers at.line found plan.outcome = subst (λ outcome. [] ≡ answers at.line found outcome) (sym p.plain) (unanswered at.line found) in
      record { told = no_outputs; acts = subst P lacks (plain no_outputs plan [] p); relays = subst R none p.quiet; planned = subst (IsPlan plan at no_outputs) none p.planned }) planned

  pub no_clear_planned : None ≡ clear_in what → PlainOf no_outputs [] → ArePlanned Confirm
  no_clear_planned lacks planned = if_ok result _ _ (λ plan p.
      let P : Option (ClearRequest A) → Type 0 = λ asked. Confirms at asked (call_on at.world at.line) plan.outcome no_outputs in
      let R : Option (ClearRequest A) → Type 0 = λ asked. RelaysFor at.tables (confirms at.line asked (call_on at.world at.line)) plan.relay_update in
      let Q : Option (ClearRequest A) → Type 0 = λ asked. IsPlan plan at no_outputs (confirms at.line asked (call_on at.world at.line)) in
      record { told = no_outputs; acts = subst P lacks (plain no_outputs plan [] p); relays = subst R lacks p.quiet; planned = subst Q lacks p.planned }) planned
