-- The other lines after an event: the far end of a call that ends is cleared, and all others stay as they are.
use Rattle.std.proofs.Common.{arith, ◌≡◌, ◌≢◌, ◌∙◌, ℕ, ◌<◌, Option, Some, None, List, [], ◌∷◌, length, refl, ap, sym, subst, inl, inr, get_or-set_other}
use Rattle.std.proofs.lemmas.Bool.{eq-eqb, ne_eqb, cond-true, cond-false}
use Rattle.std.proofs.lemmas.List.{get_or-set_same}
use Rattle.xp_answer.specs.declared.setup.Setup.{Setup}
use Rattle.xp_causes.specs.declared.clearing_cause.TheConstants.{NUMBER_BUSY, REMOTE_PROCEDURE_ERROR}
use Rattle.xp_causes.specs.declared.diagnostic.TheConstants.{CALL_COLLISION}
use Rattle.xp_channel.specs.declared.action.Action.{Action}
use Rattle.xp_channel.specs.declared.channel.Channel.TheVariants.{P7}
use Rattle.xp_subs.specs.Tables.{Tables, line_count}
use Rattle.xp_step.specs.declared.entry.Entry.{Entry}
use Rattle.xp_step.specs.declared.event.What.{What}
use Rattle.xp_step.specs.declared.outcome.Outcome.{Outcome}
use Rattle.xp_step.specs.declared.outcome.Outcome.TheVariants.{Plain, Put, Refused, Connected, Declined, Exceeded}
use Rattle.xp_step.specs.declared.output.Output.{Output}
use Rattle.xp_step.specs.Acts.{Acts, IsPut, IsRequested, Requests, outputs_of_cancel}
use Rattle.xp_step.specs.Effects.{answers, carries, collides, confirms, effects_of, leaves, requests}
use Rattle.xp_step.specs.EventOutputs.{EventOutputs}
use Rattle.xp_step.specs.Outcomes.{taken_by}
use Rattle.xp_step.specs.Run.{Run}
use Rattle.xp_step.specs.Step.{Step}
use Rattle.xp_step.specs.InForce.{in_force}
use Rattle.xp_step.specs.StepContext.{StepContext, step_context}
use Rattle.xp_step.specs.Table.{CallRequest, ClearRequest, action_at}
use Rattle.xp_machine.specs.Changes.{NoCallState, IsFree, IsCleared, Ends, all_changed, changed}
use Rattle.xp_machine.specs.Channel.{call_of, channel_of}
use Rattle.xp_machine.specs.Coupling.{AreCoupled, IsEnd, IsHeld}
use Rattle.xp_machine.specs.World.{Call, World, call_numbered, call_on, far_end, line_at, off_line, state_at}
use Rattle.xp_machine.proofs.Coupled.{IsIn, far_shows, far_within}
use Rattle.xp_machine.proofs.InCall.{end_of, pair, shown_on}
use Rattle.xp_machine.proofs.Maps.{get_new}
use Rattle.xp_core.specs.States.{OthersFollow, channel_at}
use Rattle.xp_core.proofs.Cells.{Suits, suits_in}
use Rattle.xp_core.proofs.Idle.{taken_ready}
use Rattle.xp_core.proofs.Sounds.{run_right}

module _ {A : Type 0} (tables : Tables) (history : List (Entry A)) (world : World) (line moment : ℕ)
    (coupled : AreCoupled tables world) (lines : length world.lines ≡ line_count tables) (within : line < length world.lines) where
  abbrev at : StepContext A
  at = step_context tables history world line moment

  -- the state in which the call that was put to the line is cancelled
  abbrev cancelled : ℕ × Call → World
  cancelled found = changed (Ends found.0 found.1 line IsFree NUMBER_BUSY CALL_COLLISION) world

  in_it : (found : ℕ × Call) → call_on world line ≡ Some found → IsIn world found.0 found.1 line
  in_it found on = grind (arith, end_of, shown_on)

  -- ---- a line that is not in the call of the event's line, and that is not taken

  module _ (other : ℕ) (not_line : other ≢ line) (not_far : (number : ℕ) (call : Call) → call_on world line ≡ Some (number, call) → other ≢ far_end call line) where
    abbrev Kept : World → Type 0
    Kept now = line_at now other ≡ line_at world other

    left_kept : (way : NoCallState) (cause diagnostic : ℕ) (found : Option (ℕ × Call)) → call_on world line ≡ found → Kept (all_changed (leaves line way cause diagnostic found ∷ []) world)
    left_kept way cause diagnostic found one = grind (arith, get_or-set_other)

    requested_kept : (now : World) → Kept now → (asked : Option (CallRequest A)) (outcome : Outcome) → taken_by outcome ≢ Some other → Kept (all_changed (requests line moment asked outcome) now)
    requested_kept now same None outcome free = same
    requested_kept now same (Some request) (Put called setup) free = grind (arith, get_or-set_other)
    requested_kept now same (Some request) (Refused why) free = get_or-set_other now.lines line other _ off_line not_line ∙ same
    requested_kept now same (Some request) Plain free = same
    requested_kept now same (Some request) (Connected agreement) free = same
    requested_kept now same (Some request) (Declined diagnostic) free = same
    requested_kept now same (Some request) Exceeded free = same

    collided_kept : (asked : Option (CallRequest A)) (found : Option (ℕ × Call)) → call_on world line ≡ found → (outcome : Outcome) → taken_by outcome ≢ Some other
        → Kept (all_changed (collides line moment asked found outcome) world)
    collided_kept None found on outcome free = refl
    collided_kept (Some request) None on outcome free = requested_kept world refl (Some request) outcome free
    collided_kept (Some request) (Some found) on outcome free =
        requested_kept (cancelled found) (left_kept IsFree NUMBER_BUSY CALL_COLLISION (Some found) on) (Some request) outcome free

    answered_kept : (found : Option (ℕ × Call)) → call_on world line ≡ found → (outcome : Outcome) → Kept (all_changed (answers line found outcome) world)
    answered_kept None on outcome = refl
    answered_kept (Some found) on (Connected agreement) =
        let here = in_it found on in
        let not_end : IsEnd found.1 other → ⊥ = λ end. elim (pair found.1 line other (coupled.held found.0 found.1 here.live).two here.end end) [
          | inl is ↦ not_line is
          | inr is ↦ not_far found.0 found.1 on is
        ] in
        get_or-set_other _ found.1.caller other _ off_line (λ is. not_end (inl is)) ∙ get_or-set_other world.lines found.1.called other _ off_line (λ is. not_end (inr is))
    answered_kept (Some found) on (Declined diagnostic) = left_kept IsCleared REMOTE_PROCEDURE_ERROR diagnostic (Some found) on
    answered_kept (Some found) on Plain = refl
    answered_kept (Some found) on (Put called setup) = refl
    answered_kept (Some found) on (Refused why) = refl
    answered_kept (Some found) on Exceeded = refl

    carried_kept : (outcome : Outcome) → Kept (all_changed (carries line (call_on world line) outcome) world)
    carried_kept outcome = grind (arith, left_kept)

    confirmed_kept : (clear : Option (ClearRequest A)) → Kept (all_changed (confirms line clear (call_on world line)) world)
    confirmed_kept clear = grind (arith, left_kept)

    kept : (what : What A) (action : Action) (outcome : Outcome) → taken_by outcome ≢ Some other → Kept (all_changed (effects_of at what action outcome) world)
    kept what action outcome free = grind (arith, answered_kept, carried_kept, collided_kept, confirmed_kept, get_or-set_other, left_kept, requested_kept)

  -- ---- the far end of a call that ends

  module _ (found : ℕ × Call) (on : call_on world line ≡ Some found) where
    abbrev far : ℕ
    far = far_end found.1 line

    -- the call goes on, or its far end is cleared
    abbrev Ended : World → Type 0
    Ended now = call_numbered now found.0 ≡ None → channel_at now far ≡ P7

    here : IsIn world found.0 found.1 line
    here = in_it found on

    held : IsHeld tables world found.0 found.1
    held = coupled.held found.0 found.1 here.live

    differs : far ≢ line
    differs same = grind (arith, cond-false, cond-true, eq-eqb, here, ne_eqb)

    there : far < length world.lines
    there = far_within tables world coupled lines found.0 found.1 line here

    goes_on : (now : World) (call : Call) → call_numbered now found.0 ≡ Some call → Ended now
    goes_on now call live = λ gone. absurd (cc)

    cleared : (way : NoCallState) (cause diagnostic : ℕ) → channel_at (changed (Ends found.0 found.1 line way cause diagnostic) world) far ≡ P7
    cleared way cause diagnostic = grind (arith, differs, get_or-set_other, get_or-set_same, there)

    left_ended : (way : NoCallState) (cause diagnostic : ℕ) (call : Option (ℕ × Call)) → call_on world line ≡ call → Ended (all_changed (leaves line way cause diagnostic call ∷ []) world)
    left_ended way cause diagnostic call is = λ gone.
        let same : Some found ≡ call = sym on ∙ is in
        let P : Option (ℕ × Call) → Type 0 = λ c. channel_at (all_changed (leaves line way cause diagnostic c ∷ []) world) far ≡ P7 in
        subst P same (cleared way cause diagnostic)

    not_taken : (far_told : List (Output A)) (request : CallRequest A) (called : ℕ) (setup : Setup) (told : EventOutputs A)
        → IsPut (in_force tables history) world line far_told request called setup told → far ≢ called
    not_taken far_told request called setup told put is = grind (arith, far_shows, here, taken_ready)

    collided_ended : (request : CallRequest A) (outcome : Outcome) (told : EventOutputs A) → IsRequested (in_force tables history) world line (outputs_of_cancel world line) request outcome told
        → channel_at (all_changed (requests line moment (Some request) outcome) (cancelled found)) far ≡ P7
    collided_ended request (Put called setup) told acts =
        ap (λ l. channel_of l.state) (get_or-set_other _ called far _ off_line (not_taken _ request called setup told acts) ∙ get_or-set_other (cancelled found).lines line far _ off_line differs)
        ∙ cleared IsFree NUMBER_BUSY CALL_COLLISION
    collided_ended request (Refused why) told acts =
        ap (λ l. channel_of l.state) (get_or-set_other (cancelled found).lines line far _ off_line differs) ∙ cleared IsFree NUMBER_BUSY CALL_COLLISION
    collided_ended request Plain told acts = absurd acts
    collided_ended request (Connected agreement) told acts = absurd acts
    collided_ended request (Declined diagnostic) told acts = absurd acts
    collided_ended request Exceeded told acts = absurd acts

    colliding_ended : (asked : Option (CallRequest A)) (outcome : Outcome) (told : EventOutputs A) → Requests (in_force tables history) world line (outputs_of_cancel world line) asked outcome told
        → Ended (all_changed (collides line moment asked (Some found) outcome) world)
    colliding_ended asked outcome told acts = grind (arith, collided_ended, here)

    answered_ended : (outcome : Outcome) → Ended (all_changed (answers line (Some found) outcome) world)
    answered_ended (Connected agreement) = grind (arith, get_new)
    answered_ended (Declined diagnostic) = λ gone. cleared IsCleared REMOTE_PROCEDURE_ERROR diagnostic
    answered_ended Plain = λ gone. goes_on world found.1 here.live gone
    answered_ended (Put called setup) = λ gone. goes_on world found.1 here.live gone
    answered_ended (Refused why) = λ gone. goes_on world found.1 here.live gone
    answered_ended Exceeded = λ gone. goes_on world found.1 here.live gone

    carried_ended : (outcome : Outcome) → Ended (all_changed (carries line (call_on world line) outcome) world)
    carried_ended outcome = grind (arith, here, left_ended)

    confirmed_ended : (clear : Option (ClearRequest A)) → Ended (all_changed (confirms line clear (call_on world line)) world)
    confirmed_ended clear = grind (arith, here, left_ended)

    -- a line in no call has none that ends
    in_none : {X : Type 0} → call_of (state_at world line) ≡ None → X
    in_none none = let shows : call_of (state_at world line) ≡ Some found.0 = here.shows in absurd (cc)

    ended : (what : What A) (action : Action) (outcome : Outcome) (told : EventOutputs A) → Suits action (state_at world line) → Acts at what action outcome told
        → Ended (all_changed (effects_of at what action outcome) world)
    ended what action outcome told suit acts = grind (arith, answered_ended, carried_ended, colliding_ended, confirmed_ended, here, in_none, left_ended)

pub others_follow : {A : Type 0} (tables : Tables) (history : List (Entry A)) (world : World) (entry : Entry A) (next : World)
    → Run tables history world → Step tables history world entry next → OthersFollow world entry next
others_follow tables history world entry next run step =
    let right = run_right tables history world run in
    let line : ℕ = entry.event.line in
    record {
      far = λ number call on.
          let P : World → Type 0 = λ w. call_numbered w number ≡ None → channel_at w (far_end call line) ≡ P7 in
          subst P (sym step.leads) (ended tables history world line entry.event.moment right.coupled right.sound.lines step.line (number, call) on entry.event.what
          (action_at world entry.event) entry.outcome step.told (suits_in (state_at world line) entry.event.what) step.acts);
      rest = grind (arith, kept);
    }
