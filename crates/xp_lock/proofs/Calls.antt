-- The calls between some lines: after an event each live call has both its lines among the three, or none.
use Rattle.std.proofs.Common.{arith, ◌≡◌, ℕ, eqb, Some, List, length, refl, ap, sym, subst, ◌∙◌, inl, inr}
use Rattle.std.specs.Prelude.{option_map}
use Rattle.std.proofs.lemmas.Bool.{cond_both}
use Rattle.xp_subs.specs.Tables.{Tables}
use Rattle.xp_step.specs.declared.entry.Entry.{Entry}
use Rattle.xp_machine.specs.Changes.{Change, Begins, Connects, Ends, all_changed, changed}
use Rattle.xp_machine.specs.Channel.{call_of}
use Rattle.xp_machine.specs.Coupling.{IsEnd}
use Rattle.xp_step.specs.Outcomes.{taken_by}
use Rattle.xp_step.specs.Run.{Run}
use Rattle.xp_step.specs.StepContext.{step_context}
use Rattle.xp_step.specs.Step.{Step}
use Rattle.xp_step.specs.Table.{action_at}
use Rattle.xp_machine.specs.World.{Call, World, call_numbered, call_on, far_end, numbered, state_at}
use Rattle.xp_machine.proofs.InCall.{called_shows, caller_shows, end_of, pair, same_number, shown_on}
use Rattle.xp_machine.proofs.Maps.{new_or_old, was_there}
use Rattle.xp_core.proofs.Shapes.{ComesOf, cancelled_by, none, one, two}
use Rattle.xp_core.proofs.Sounds.{IsRight, run_right, shape_of}
use Rattle.xp_lock.proofs.Among.{Among}
use Rattle.xp_lock.proofs.Three.{far_from, goes_here, taken_three, trio}

-- where one line of a call is among these, both are
abbrev pub HasBoth : List ℕ → Call → Type 0
HasBoth lines call = (x y : ℕ) → IsEnd call x → IsEnd call y → Among lines x → Among lines y

-- so of each live call
abbrev pub AreClosed : List ℕ → World → Type 0
AreClosed lines world = (number : ℕ) (call : Call) → call_numbered world number ≡ Some call → HasBoth lines call

pub far_is_end : (call : Call) (line : ℕ) → IsEnd call (far_end call line)
far_is_end call line = cond_both (eqb call.caller line) call.called call.caller (IsEnd call) (λ first. inr refl) (λ second. inl refl)

module _ {A : Type 0} (tables : Tables) (before : List (Entry A)) (world : World) (run : Run tables before world) (entry : Entry A) (next : World)
    (step : Step tables before world entry next) where
  abbrev line : ℕ
  line = entry.event.line

  abbrev right : IsRight tables (length before) world
  right = run_right tables before world run

  -- ---- a step keeps lines closed that have the new call's

  module _ (lines : List ℕ) (closed : AreClosed lines world) (adds : (called : ℕ) → taken_by entry.outcome ≡ Some called → Among lines line × Among lines called) where
    abbrev Comes : Change → Type 0
    Comes change = ComesOf (step_context tables before world line entry.event.moment) entry.event.what (action_at world entry.event) entry.outcome step.told change

    change_closed : (change : Change) (w : World) → Comes change → AreClosed lines w → AreClosed lines (changed change w)
    change_closed (Begins l identifier called dialled setup requested) w from all number call live = elim (new_or_old w.calls w.next _ number call live) [
      | inl new ↦ grind arith
      | inr old ↦ all number call old.1
    ]
    change_closed (Connects n c agreement) w from all number call live = grind (arith, new_or_old, shown_on)
    change_closed (Ends n c l way cause diagnostic) w from all number call live = all number call (was_there w.calls n number call live).1
    change_closed change w from all number call live = all number call live

    pub still_closed : AreClosed lines next
    still_closed = elim (shape_of tables before world entry next (length before) right step) [
      | none is old ↦ subst (AreClosed lines) (sym (step.leads ∙ ap (λ changes. all_changed changes world) is)) closed
      | one change is can from ↦ subst (AreClosed lines) (sym (step.leads ∙ ap (λ changes. all_changed changes world) is)) (change_closed change world from closed)
      | two number call change new is first can told from ↦
          subst (AreClosed lines) (sym (step.leads ∙ ap (λ changes. all_changed changes world) is))
          (change_closed change (changed (cancelled_by number call line) world) from (λ n c live. closed n c (was_there world.calls number n c live).1))
    ]

  -- ---- the three are closed

  abbrev three : List ℕ
  three = trio world line entry.outcome

  shows : (number : ℕ) (call : Call) → call_numbered world number ≡ Some call → (y : ℕ) → IsEnd call y → call_of (state_at world y) ≡ Some number
  shows number call live y (inl is) = ap (λ l. call_of (state_at world l)) is ∙ caller_shows tables world number call (right.coupled.held number call live)
  shows number call live y (inr is) = ap (λ l. call_of (state_at world l)) is ∙ called_shows tables world number call (right.coupled.held number call live)

  -- one of the three that is in a call is in that of the line
  line_shows : (number : ℕ) (x : ℕ) → call_of (state_at world x) ≡ Some number → Among three x → call_of (state_at world line) ≡ Some number
  line_shows number x in_it (inl is) = ap (λ l. call_of (state_at world l)) (sym is) ∙ in_it
  line_shows number x in_it (inr (inl is)) = grind (arith, far_from, far_is_end, same_number, shown_on, shows)
  line_shows number x in_it (inr (inr (inl is))) = grind (arith, goes_here)
  line_shows number x in_it (inr (inr (inr no_more))) = absurd no_more

  three_closed : AreClosed three world
  three_closed number call live x y at_x at_y there =
      let in_it = line_shows number x (shows number call live x at_x) there in
      let on : call_on world line ≡ Some (number, call) = ap (λ n. numbered world n) in_it ∙ ap (option_map (λ c. (number, c))) live in
      elim (pair call line y (right.coupled.held number call live).two (end_of tables world right.coupled line number call in_it live) at_y) [
        | inl same ↦ inl same
        | inr far ↦ inr (inl (far ∙ sym (ap (far_from line) on)))
      ]

  pub closed_after : AreClosed three next
  closed_after = still_closed three three_closed (λ called took. (inl refl, taken_three tables before world run entry next step called took))
