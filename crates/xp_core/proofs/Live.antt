-- Where the live calls after a step come from.
use Rattle.std.proofs.Common.{◌≡◌, ◌∙◌, ◌≤◌, ℕ, Option, Some, None, List, [], ◌∷◌, refl, ap, sym, subst, inl, inr, arith}
use Rattle.xp_channel.specs.declared.action.Action.TheVariants.{Answer}
use Rattle.xp_subs.specs.Tables.{Tables}
use Rattle.xp_step.specs.declared.entry.Entry.{Entry}
use Rattle.xp_machine.specs.declared.agreement.Agreement.{Agreement}
use Rattle.xp_machine.specs.Changes.{Change, Rises, Leaves, Begins, IsRefused, Connects, Ends, all_changed, changed}
use Rattle.xp_step.specs.Effects.{changes_of}
use Rattle.xp_step.specs.StepContext.{step_context}
use Rattle.xp_step.specs.Step.{Step}
use Rattle.xp_step.specs.Table.{action_at}
use Rattle.xp_machine.specs.World.{Call, World, call_numbered, call_on}
use Rattle.xp_core.proofs.Cells.{suits_in}
use Rattle.xp_machine.proofs.InCall.{end_of, shown_on}
use Rattle.xp_machine.proofs.Maps.{new_or_old, was_there}
use Rattle.xp_core.proofs.Shapes.{ComesOf, IsNew, cancelled_by, none, one, two}
use Rattle.xp_core.proofs.Sounds.{IsRight, shape_of}

-- these changes connect a call of this number
pub record Connected (changes : List Change) (number : ℕ) : Type 0 where
  pub call : Call
  pub agreement : Agreement
  pub rest : List Change
  pub is : changes ≡ Connects number call agreement ∷ rest

-- a live call after changes was live as it is, began with them, or was connected by them
pub data Was (world : World) (changes : List Change) (number : ℕ) (call : Call) : Type 0 where
  same : call_numbered world number ≡ Some call → (Connected changes number → ⊥) → Was world changes number call
  begun : number ≡ world.next → call.agreed ≡ None → Was world changes number call
  joined : (before : Call) (agreement : Agreement) → call_numbered world number ≡ Some before → before.agreed ≡ None
      → changes ≡ Connects number before agreement ∷ [] → call ≡ record before { agreed = Some agreement } → Was world changes number call

abbrev begins_with : List Change → Option Change
begins_with [] = None
begins_with (change ∷ changes) = Some change

-- where the first change connects none
not_connected : (changes : List Change) (change : Change) (number : ℕ) → begins_with changes ≡ Some change
    → ((call : Call) (agreement : Agreement) → change ≡ Connects number call agreement → ⊥) → Connected changes number → ⊥
not_connected changes change number first other connects = grind arith

module _ {A : Type 0} (tables : Tables) (before : List (Entry A)) (world : World) (entry : Entry A) (next : World) (entries : ℕ)
    (right : IsRight tables entries world) (step : Step tables before world entry next) where
  abbrev Comes : Change → Type 0
  Comes change = ComesOf (step_context tables before world entry.event.line entry.event.moment) entry.event.what (action_at world entry.event) entry.outcome step.told change

  -- a call that is answered was not connected
  unagreed : (number : ℕ) (call : Call) → action_at world entry.event ≡ Answer → call_on world entry.event.line ≡ Some (number, call) → call.agreed ≡ None
  unagreed number call answers on = grind (arith, end_of, shown_on, suits_in)

  one_was : (change : Change) → Comes change → (number : ℕ) (call : Call) → call_numbered (changed change world) number ≡ Some call → Was world (change ∷ []) number call
  one_was (Rises line) from number call is = same is (not_connected _ (Rises line) number refl (λ c a e. absurd (cc)))
  one_was (Leaves line way) from number call is = same is (not_connected _ (Leaves line way) number refl (λ c a e. absurd (cc)))
  one_was (IsRefused line identifier dialled why) from number call is = same is (not_connected _ (IsRefused line identifier dialled why) number refl (λ c a e. absurd (cc)))
  one_was (Begins line identifier called dialled setup requested) from number call is =
      elim (new_or_old world.calls world.next (record { caller = line; called = called; dialled = dialled; setup = setup; requested = requested; agreed = None }) number call is) [
        | inl new ↦ begun new.0 (ap (λ c. c.agreed) (sym new.1))
        | inr old ↦ same old.1 (not_connected _ (Begins line identifier called dialled setup requested) number refl (λ c a e. absurd (cc)))
      ]
  one_was (Connects n c a) from number call is =
      elim (new_or_old world.calls n (record c { agreed = Some a }) number call is) [
        | inl new ↦
            let here : call_numbered world n ≡ Some c = (shown_on world entry.event.line (n, c) from.on).1 in
            joined c a (ap (call_numbered world) new.0 ∙ here) (unagreed n c from.answers from.on) (ap (λ m. Connects m c a ∷ []) (sym new.0)) (sym new.1)
        | inr old ↦ grind arith
      ]
  one_was (Ends n c line way cause diagnostic) from number call is = grind (arith, not_connected, was_there)

  -- after the end of the call that a collision cancels
  module _ (n : ℕ) (c : Call) where
    abbrev ended : Change
    ended = cancelled_by n c entry.event.line

    still : (change : Change) (number : ℕ) (call : Call) → call_numbered (changed ended world) number ≡ Some call → Was world (ended ∷ change ∷ []) number call
    still change number call is = same (was_there world.calls n number call is).1 (not_connected _ ended number refl (λ c' a e. absurd (cc)))

    two_was : (change : Change) → IsNew (action_at world entry.event) → Comes change → (number : ℕ) (call : Call)
        → call_numbered (changed change (changed ended world)) number ≡ Some call → Was world (ended ∷ change ∷ []) number call
    two_was (Rises line) new from number call is = absurd (from new)
    two_was (Leaves line way) new from number call is = absurd (from new)
    two_was (Connects n' c' a) new from number call is = absurd (from.old new)
    two_was (Ends n' c' line way cause diagnostic) new from number call is = absurd (from.old new)
    two_was (IsRefused line identifier dialled why) new from number call is = still (IsRefused line identifier dialled why) number call is
    two_was (Begins line identifier called dialled setup requested) new from number call is =
        elim (new_or_old (changed ended world).calls world.next (record { caller = line; called = called; dialled = dialled; setup = setup; requested = requested; agreed = None }) number call is) [
          | inl made ↦ begun made.0 (ap (λ k. k.agreed) (sym made.1))
          | inr old ↦ still (Begins line identifier called dialled setup requested) number call old.1
        ]

  abbrev changes : List Change
  changes = changes_of tables before world entry

  pub was : (number : ℕ) (call : Call) → call_numbered next number ≡ Some call → Was world changes number call
  was number call is =
      let P : World → Type 0 = λ w. call_numbered w number ≡ Some call in
      let here : call_numbered (all_changed changes world) number ≡ Some call = subst P step.leads is in
      elim (shape_of tables before world entry next entries right step) [
        | none nothing old ↦ grind arith
        | one change it can from ↦
            let Q : List Change → Type 0 = λ cs. call_numbered (all_changed cs world) number ≡ Some call in
            let R : List Change → Type 0 = λ cs. Was world cs number call in
            subst R (sym it) (one_was change from number call (subst Q it here))
        | two n c change new it first can told from ↦
            let Q : List Change → Type 0 = λ cs. call_numbered (all_changed cs world) number ≡ Some call in
            let R : List Change → Type 0 = λ cs. Was world cs number call in
            subst R (sym it) (two_was n c change new from number call (subst Q it here))
      ]

  -- a call that is connected is live
  pub connects_live : (number : ℕ) (call : Call) (agreement : Agreement) (rest : List Change) → changes ≡ Connects number call agreement ∷ rest
      → call_numbered world number ≡ Some call
  connects_live number call agreement rest is = grind (arith, cancelled_by, shape_of)

  -- the next number does not go back
  next_of : (change : Change) (w : World) → w.next ≤ (changed change w).next
  next_of change w = grind arith

  all_next : (all : List Change) (w : World) → w.next ≤ (all_changed all w).next
  all_next [] w = omega arith
  all_next (change ∷ all) w = omega (arith, next_of change w, all_next all (changed change w))

  pub next_grows : world.next ≤ next.next
  next_grows = omega (arith, ap (λ w. w.next) step.leads, all_next changes world)
