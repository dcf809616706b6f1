-- What the stall of a line in service does.
use Rattle.std.proofs.Common.{◌≡◌, ℕ, ◌<◌, ◌≤◌, true, false, true≢false, Option, Some, None, List, length, ap, sym, subst, ◌∙◌, inl, inr, arith}
use Rattle.std.proofs.lemmas.Bool.{true_from_ne_false}
use Rattle.std.proofs.lemmas.List.{length-map}
use Rattle.std.proofs.lemmas.List.Sums.{count_by-le-length, length-filter}
use Rattle.xp_channel.specs.declared.action.Action.{Action}
use Rattle.xp_channel.specs.declared.action.Action.TheVariants.{Fall}
use Rattle.xp_channel.specs.declared.channel.Channel.TheVariants as channels
use Rattle.xp_channel.specs.declared.kind.EventKind.TheVariants as kinds
use Rattle.xp_channel.specs.Table.{cell}
use Rattle.xp_subs.specs.Tables.{Tables}
use Rattle.xp_step.specs.declared.entry.Entry.{Entry}
use Rattle.xp_step.specs.declared.event.What.TheVariants.{Stall}
use Rattle.xp_step.specs.Acts.{Acts, IsPlain, outputs_of_fall}
use Rattle.xp_machine.specs.Channel.{State, channel_of, is_off}
use Rattle.xp_step.specs.Outcomes.{taken_by}
use Rattle.xp_step.specs.StepContext.{StepContext, step_context}
use Rattle.xp_step.specs.Run.{Run}
use Rattle.xp_step.specs.Step.{Step}
use Rattle.xp_step.specs.Table.{action_at, action_in}
use Rattle.xp_core.specs.States.{IsStateAfter, channel_at}
use Rattle.xp_core.specs.steps.Stalling.{outputs_of_stall}
use Rattle.xp_step.specs.EventOutputs.{outputs_of}
use Rattle.xp_machine.specs.World.{World, state_at}
use Rattle.xp_machine.proofs.InCall.{end_of, shown_on}
use Rattle.xp_core.proofs.Sounds.{run_right}
use Rattle.xp_core.proofs.States.{state_follows}
use Rattle.xp_lock.specs.Outgoing.{to_line}
use Rattle.xp_lock.specs.Locked.{is_up}
use Rattle.xp_lock.proofs.Among.{Among}
use Rattle.xp_lock.proofs.Calls.{AreClosed, far_is_end, still_closed}
use Rattle.xp_lock.proofs.Three.{far_from, goes_to, rises, trio}

-- the table of actions takes each line in service out of it
falls : (state : State) → is_off state ≡ false → cell (channel_of state) kinds.Down ≡ Fall
falls state one = grind arith

off_from : (state : State) → channel_of state ≡ channels.Off → is_off state ≡ true
off_from state is = grind arith

not_both : (found : Option ℕ) (line : ℕ) → found ≡ None → found ≡ Some line → ⊥
not_both found line none some = absurd (cc)

module _ {A : Type 0} (tables : Tables) (before : List (Entry A)) (world : World) (run : Run tables before world) (stall : Entry A) (next : World)
    (step : Step tables before world stall next) (is : stall.event.what ≡ Stall) (on : is_off (state_at world stall.event.line) ≡ false) where
  abbrev line : ℕ
  line = stall.event.line

  abbrev at : StepContext A
  at = step_context tables before world line stall.event.moment

  action_is : action_at world stall.event ≡ Fall
  action_is = ap (λ w. action_in (channel_of (state_at world line)) w) is ∙ falls (state_at world line) on

  acts : IsPlain (outputs_of_fall at stall.event.what) stall.outcome step.told
  acts = let P : Action → Type 0 = λ a. Acts at stall.event.what a stall.outcome step.told in subst P action_is step.acts

  untaken : taken_by stall.outcome ≡ None
  untaken = ap taken_by acts.0

  -- ---- what it puts out

  outputs_are : stall.outputs ≡ outputs_of (outputs_of_stall at)
  outputs_are = step.outputs ∙ ap outputs_of acts.1 ∙ ap (λ w. outputs_of (outputs_of_fall at w)) is

  pub few : (l : ℕ) → length (to_line l stall.outputs) ≤ 2
  few l = grind (arith, count_by-le-length, length-filter, length-map, outputs_are)

  -- where a call has both its lines among these, or none
  module _ (lines : List ℕ) (closed : AreClosed lines world) where
    pub goes_among : Among lines line → (l : ℕ) → 0 < length (to_line l stall.outputs) → Among lines l
    goes_among here l some = grind (arith, end_of, far_from, far_is_end, goes_to, run_right, shown_on, trio, untaken)

    pub closed_next : AreClosed lines next
    closed_next = still_closed tables before world run stall next step lines closed (λ called took. absurd (not_both (taken_by stall.outcome) called untaken took))

  -- ---- who is in service afterwards

  pub off_after : is_off (state_at next line) ≡ true
  off_after =
      let P : Action → Type 0 = λ a. IsStateAfter (channel_at world line) a stall.outcome (channel_at next line) in
      off_from (state_at next line) (subst P action_is (state_follows tables before world stall next run step)).1

  pub was_on : (l : ℕ) → is_off (state_at next l) ≡ false → is_off (state_at world l) ≡ false
  was_on l here = elim (rises tables before world run stall next step l here) [
    | inl was ↦ was
    | inr up ↦ absurd (true≢false (sym up.0 ∙ ap is_up is))
  ]

  pub stays_off : (l : ℕ) → is_off (state_at world l) ≡ true → is_off (state_at next l) ≡ true
  stays_off l off = true_from_ne_false _ (λ here. true≢false (sym off ∙ was_on l here))
