-- Every state that a history leads to is sound and coupled.
use Rattle.std.proofs.Common.{◌≡◌, ℕ, ◌+◌, ◌≤◌, None, List, [], ◌∷◌, ◌++◌, get_or, set, length, ap, sym, subst, ◌∙◌, arith, length-append, length-set}
use Rattle.std.proofs.lemmas.Bool.{cases_eq}
use Rattle.std.proofs.lemmas.List.{length-replicate}
use Rattle.std.specs.FinMap.{get-empty}
use Rattle.std.specs.Ordering.{nat_cmp}
use Rattle.xp_causes.specs.declared.clearing_cause.TheConstants.{NUMBER_BUSY}
use Rattle.xp_causes.specs.declared.diagnostic.TheConstants.{CALL_COLLISION}
use Rattle.xp_subs.specs.Tables.{Tables, line_count}
use Rattle.xp_step.specs.declared.entry.Entry.{Entry}
use Rattle.xp_machine.specs.Changes.{Change, Rises, Leaves, Begins, IsRefused, Connects, Ends, NoCallState, IsFree, all_changed, changed}
use Rattle.xp_machine.specs.Coupling.{AreCoupled}
use Rattle.xp_step.specs.Run.{Run}
use Rattle.xp_core.specs.steps.Sound.{IsSound}
use Rattle.xp_step.specs.StepContext.{step_context}
use Rattle.xp_step.specs.Step.{Step}
use Rattle.xp_step.specs.Effects.{changes_of}
use Rattle.xp_step.specs.Table.{action_at}
use Rattle.xp_machine.specs.World.{Call, Line, World, call_numbered, far_end, off_line, opening}
use Rattle.xp_machine.proofs.Coupled.{CanBe, changed_coupled}
use Rattle.xp_machine.proofs.Lines.{get_or-set, line_at-opening}
use Rattle.xp_machine.proofs.Maps.{get_gone, get_left, get_other}
use Rattle.xp_step.proofs.RunLemmas.{run_keeps}
use Rattle.xp_core.proofs.Shapes.{Shape, none, one, two, cancelled_by, step_shape}

-- an entry without effect
sound_on : (tables : Tables) (entries : ℕ) (world : World) → IsSound tables entries world → IsSound tables (entries + 1) world
sound_on tables entries world sound = grind arith

-- a line is set to one of at most so many connections
set_within : (world : World) (bound at : ℕ) (becomes : Line) (lines : List Line) (line : ℕ) → becomes.connection ≤ bound
    → (get_or lines line off_line).connection ≤ bound → (get_or (set lines at becomes) line off_line).connection ≤ bound
set_within world bound at becomes lines line new old = get_or-set (λ l. l.connection ≤ bound) lines at becomes line off_line new old

-- the end of a call brings no connection and uses no number
pub ended_sound : (tables : Tables) (entries : ℕ) (world : World) (number : ℕ) (call : Call) (line : ℕ) (way : NoCallState) (cause diagnostic : ℕ) → IsSound tables entries world
    → IsSound tables entries (changed (Ends number call line way cause diagnostic) world)
ended_sound tables entries world number call line way cause diagnostic sound = record {
  lines = length-set _ line _ ∙ length-set world.lines (far_end call line) _ ∙ sound.lines;
  next = sound.next;
  fresh = grind (arith, cases_eq, get_gone, get_left);
  connection = λ l. set_within world entries line _ _ l (sound.connection line)
      (set_within world entries (far_end call line) _ world.lines l (sound.connection (far_end call line)) (sound.connection l));
}

changed_sound : (tables : Tables) (entries : ℕ) (world : World) (change : Change) → IsSound tables entries world → CanBe world change
    → IsSound tables (entries + 1) (changed change world)
changed_sound tables entries world (Rises line) sound can = grind (arith, length-set, set_within)
changed_sound tables entries world (Leaves line way) sound can = grind (arith, length-set, set_within)
changed_sound tables entries world (Begins line identifier called dialled setup requested) sound can = record {
  lines = length-set _ called _ ∙ length-set world.lines line _ ∙ sound.lines;
  next = omega (arith, sound.next);
  fresh = λ number past. get_other world.calls world.next _ number (λ same. absurd (omega (arith, past, same))) ∙ sound.fresh number (omega (arith, past));
  connection = λ l. set_within world (entries + 1) called _ _ l (omega (arith, sound.connection called))
      (set_within world (entries + 1) line _ world.lines l (omega (arith, sound.connection line)) (omega (arith, sound.connection l)));
}
changed_sound tables entries world (IsRefused line identifier dialled why) sound can = grind (arith, length-set, set_within)
changed_sound tables entries world (Connects number call agreement) sound can = record {
  lines = length-set _ call.caller _ ∙ length-set world.lines call.called _ ∙ sound.lines;
  next = omega (arith, sound.next);
  fresh = grind (arith, get_other);
  connection = λ l. set_within world (entries + 1) call.caller _ _ l (omega (arith, sound.connection call.caller))
      (set_within world (entries + 1) call.called _ world.lines l (omega (arith, sound.connection call.called)) (omega (arith, sound.connection l)));
}
changed_sound tables entries world (Ends number call line way cause diagnostic) sound can =
    sound_on tables entries (changed (Ends number call line way cause diagnostic) world) (ended_sound tables entries world number call line way cause diagnostic sound)

opening_sound : (tables : Tables) → IsSound tables 0 (opening (line_count tables))
opening_sound tables = record {
  lines = length-replicate (line_count tables) off_line;
  next = omega arith;
  fresh = λ number past. get-empty nat_cmp number;
  connection = λ line. omega (arith, ap (λ l. l.connection) (line_at-opening (line_count tables) line));
}

opening_coupled : (tables : Tables) → AreCoupled tables (opening (line_count tables))
opening_coupled tables = record {
  held = λ number call is. let none : call_numbered (opening (line_count tables)) number ≡ None = get-empty nat_cmp number in absurd (cc);
  shown = grind (arith, line_at-opening);
}

-- a state that is sound and coupled
pub record IsRight (tables : Tables) (entries : ℕ) (world : World) : Type 0 where
  pub sound : IsSound tables entries world
  pub coupled : AreCoupled tables world

-- one change that can be made
pub change_right : (tables : Tables) (entries : ℕ) (world : World) (change : Change) → IsRight tables entries world → CanBe world change
    → IsRight tables (entries + 1) (changed change world)
change_right tables entries world change right can = record {
  sound = changed_sound tables entries world change right.sound can;
  coupled = changed_coupled tables world change right.coupled right.sound.lines (right.sound.fresh world.next (omega arith)) can;
}

-- the end of the call that a collision cancels
pub cancel_right : (tables : Tables) (entries : ℕ) (world : World) (number : ℕ) (call : Call) (line : ℕ) → IsRight tables entries world → CanBe world (cancelled_by number call line)
    → IsRight tables entries (changed (cancelled_by number call line) world)
cancel_right tables entries world number call line right can = record {
  sound = ended_sound tables entries world number call line IsFree NUMBER_BUSY CALL_COLLISION right.sound;
  coupled = changed_coupled tables world (cancelled_by number call line) right.coupled right.sound.lines (right.sound.fresh world.next (omega arith)) can;
}

module _ {A : Type 0} where
  pub shape_of : (tables : Tables) (before : List (Entry A)) (world : World) (entry : Entry A) (next : World) (entries : ℕ)
      → IsRight tables entries world → (step : Step tables before world entry next)
      → Shape (step_context tables before world entry.event.line entry.event.moment) entry.event.what (action_at world entry.event) entry.outcome step.told (changes_of tables before world entry)
  shape_of tables before world entry next entries right step = step_shape tables before world entry next right.coupled right.sound.lines step

  pub step_right : (tables : Tables) (before : List (Entry A)) (world : World) (entry : Entry A) (next : World)
      → IsRight tables (length before) world → Step tables before world entry next → IsRight tables (length (before ++ entry ∷ [])) next
  step_right tables before world entry next right step =
      let P : ℕ → Type 0 = λ entries. IsRight tables entries next in
      let Q : World → Type 0 = λ w. IsRight tables (length before + 1) w in
      subst P (sym (length-append before (entry ∷ []))) (elim (shape_of tables before world entry next (length before) right step) [
        | none is old ↦ subst Q (sym (step.leads ∙ ap (λ changes. all_changed changes world) is))
            (record { sound = sound_on tables (length before) world right.sound; coupled = right.coupled })
        | one change is can from ↦ subst Q (sym (step.leads ∙ ap (λ changes. all_changed changes world) is)) (change_right tables (length before) world change right can)
        | two number call change new is first can told from ↦ subst Q (sym (step.leads ∙ ap (λ changes. all_changed changes world) is))
            (change_right tables (length before) _ change (cancel_right tables (length before) world number call entry.event.line right first) can)
      ])

  pub run_right : (tables : Tables) (history : List (Entry A)) (world : World) → Run tables history world → IsRight tables (length history) world
  run_right tables history world run =
      run_keeps (λ before w. IsRight tables (length before) w) tables (step_right tables) [] (opening (line_count tables)) history world
      (record { sound = opening_sound tables; coupled = opening_coupled tables }) run

  pub coupled_here : (tables : Tables) (history : List (Entry A)) (world machine : World) → Run tables history world → machine ≡ world → AreCoupled tables machine
  coupled_here tables history world machine run is = grind (arith, run_right)

  pub right_here : (tables : Tables) (history : List (Entry A)) (world machine : World) → Run tables history world → machine ≡ world → IsSound tables (length history) machine
  right_here tables history world machine run is = grind (arith, run_right)
