-- The moment that is kept of a live call's connection is that of the entry that connected it.
use Rattle.std.proofs.Common.{◌≡◌, ◌∙◌, ℕ, ◌≤◌, ◌<◌, ◌⊎◌, Option, Some, None, List, [], ◌∷◌, ◌++◌, length, refl, ap, sym, subst, inl, inr, arith}
use Rattle.std.proofs.lemmas.Bool.{cases_lt}
use Rattle.std.specs.FinMap.{get-empty}
use Rattle.std.specs.Ordering.{nat_cmp}
use Rattle.xp_channel.specs.declared.action.Action.{Action}
use Rattle.xp_channel.specs.declared.action.Action.TheVariants.{Answer}
use Rattle.xp_subs.specs.Tables.{Tables, line_count}
use Rattle.xp_step.specs.declared.entry.Entry.{Entry}
use Rattle.xp_step.specs.declared.outcome.Outcome.TheVariants.{Connected}
use Rattle.xp_step.specs.Effects.{changes_of}
use Rattle.xp_core.specs.Records.{Connects as HasConnected, Moment, WasConnected}
use Rattle.xp_step.specs.Run.{Run}
use Rattle.xp_step.specs.StepContext.{StepContext, step_context}
use Rattle.xp_step.specs.Step.{Step}
use Rattle.xp_step.specs.Table.{action_at}
use Rattle.xp_machine.specs.declared.agreement.Agreement.{Agreement}
use Rattle.xp_machine.specs.Changes.{Change, Connects}
use Rattle.xp_machine.specs.Channel.{Ringing, call_of}
use Rattle.xp_machine.specs.Clearing.{connected_of}
use Rattle.xp_machine.specs.World.{Call, World, call_numbered, call_on, opening, state_at}
use Rattle.xp_machine.proofs.InCall.{shown_on}
use Rattle.xp_core.proofs.Cells.{Suits, suits_in}
use Rattle.xp_core.proofs.Fronts.{last_or_before}
use Rattle.xp_core.proofs.Ledger.{here, lift}
use Rattle.xp_core.proofs.Live.{begun, joined, next_grows, same, was}
use Rattle.xp_step.proofs.RunLemmas.{run_keeps, run_push}
use Rattle.xp_core.proofs.Shapes.{ComesOf, cancelled_by, none, one, two}
use Rattle.xp_core.proofs.Sounds.{IsRight, run_right, shape_of}
use Rattle.xp_core.proofs.Worlds.{run_world}

module _ {A : Type 0} where
  -- in this state the entry connects the call of this number
  record ConnectsAt (number : ℕ) (world : World) (entry : Entry A) : Type 0 where
    answers : action_at world entry.event ≡ Answer
    rings : state_at world entry.event.line ≡ Ringing number
    agreement : Agreement
    settled : entry.outcome ≡ Connected agreement

  pub record IsTimed (tables : Tables) (before : List (Entry A)) (world : World) : Type 0 where
    pub connected : (number : ℕ) (call : Call) → call_numbered world number ≡ Some call → WasConnected tables before number (connected_of call.agreed)
    -- no call of a number that is not yet given was connected
    pub unused : (number : ℕ) → world.next ≤ number → (moment : Moment tables before) → HasConnected moment number → ⊥

  module _ (tables : Tables) (before : List (Entry A)) (world : World) (entry : Entry A) (next : World) (run : Run tables before world)
      (right : IsRight tables (length before) world) (step : Step tables before world entry next) where
    abbrev grown : List (Entry A)
    grown = before ++ entry ∷ []

    abbrev at : StepContext A
    at = step_context tables before world entry.event.line entry.event.moment

    -- a moment of the longer history is one of the history before, or the last
    which : (number : ℕ) (moment : Moment tables grown) → HasConnected moment number
        → ((old : Moment tables before) × HasConnected old number) ⊎ ConnectsAt number world entry
    which number moment connects = elim (last_or_before before entry moment.before moment.entry moment.rest moment.splits) [
      | inl earlier ↦
          let old : Moment tables before = record {
            before = moment.before;
            entry = moment.entry;
            rest = earlier.0;
            world = moment.world;
            next = moment.next;
            splits = earlier.1;
            run = moment.run;
            step = moment.step;
          } in
          inl (old, record { answers = connects.answers; rings = connects.rings; agreement = connects.agreement; settled = connects.settled })
      | inr last ↦ grind (arith, run_world)
    ]

    -- ---- what the entry connects

    -- the call that rings on the line
    rung : (number : ℕ) → ConnectsAt number world entry → (call : Call) × (call_on world entry.event.line ≡ Some (number, call))
    rung number connects = grind arith

    changes_are : (number : ℕ) (connects : ConnectsAt number world entry)
        → changes_of tables before world entry ≡ Connects number (rung number connects).0 connects.agreement ∷ []
    changes_are number connects = grind (arith, rung)

    -- its number was given
    given : (number : ℕ) → ConnectsAt number world entry → number < world.next
    given number connects = grind (arith, cases_lt, rung, shown_on)

    abbrev Comes : Change → Type 0
    Comes change = ComesOf at entry.event.what (action_at world entry.event) entry.outcome step.told change

    -- a call that it connects
    joined_by : (number : ℕ) (call : Call) (agreement : Agreement) → changes_of tables before world entry ≡ Connects number call agreement ∷ []
        → Comes (Connects number call agreement)
    joined_by number call agreement is = elim (shape_of tables before world entry next (length before) right step) [
      | none nothing old ↦ absurd (cc)
      | one change it can from ↦ grind arith
      | two n c change new it first can told from ↦ grind (arith, cancelled_by)
    ]
      where
        first_same : (first other : Change) (rest others : List Change) → first ∷ rest ≡ other ∷ others → first ≡ other
        first_same first other rest others is' = cc

    abbrev last : Moment tables grown
    last = here tables before world entry next run step

    pub connected_here : (number : ℕ) (call : Call) (agreement : Agreement) → changes_of tables before world entry ≡ Connects number call agreement ∷ []
        → HasConnected last number × (agreement.connected ≡ entry.event.moment)
    connected_here number call agreement is =
        let from = joined_by number call agreement is in
        let P : Action → Type 0 = λ action. Suits action (state_at world entry.event.line) in
        let rings = subst P from.answers (suits_in (state_at world entry.event.line) entry.event.what) in
        let shown : call_of (state_at world entry.event.line) ≡ Some number = (shown_on world entry.event.line (number, call) from.on).0 in
        let both : Some rings.0 ≡ Some number = sym (ap call_of rings.1) ∙ shown in
        let number_is : rings.0 ≡ number = cc in (
          record { answers = from.answers; rings = rings.1 ∙ ap Ringing number_is; agreement = agreement; settled = from.settled },
          ap (λ a. a.connected) from.connected.agreement_is,
        )

    -- ---- one entry more

    -- a call that it does not connect
    still : (number : ℕ) (connected : Option ℕ) → WasConnected tables before number connected → (ConnectsAt number world entry → ⊥) → WasConnected tables grown number connected
    still number None old other = λ moment connects. elim (which number moment connects) [
      | inl earlier ↦ old earlier.0 earlier.1
      | inr it ↦ other it
    ]
    still number (Some connected) old other = (
      lift tables before grown (entry ∷ []) refl old.0,
      record { answers = old.1.answers; rings = old.1.rings; agreement = old.1.agreement; settled = old.1.settled },
      old.2,
    )

    connected_next : IsTimed tables before world → (number : ℕ) (call : Call) → call_numbered next number ≡ Some call
        → WasConnected tables grown number (connected_of call.agreed)
    connected_next timed number call live = elim (was tables before world entry next (length before) right step number call live) [
      | same there other ↦ still number (connected_of call.agreed) (timed.connected number call there) (λ connects.
          other (record { call = (rung number connects).0; agreement = connects.agreement; rest = []; is = changes_are number connects }))
      | begun number_is unagreed ↦
          let W : Option Agreement → Type 0 = λ agreed. WasConnected tables grown number (connected_of agreed) in
          subst W (sym unagreed) (still number None (timed.unused number (omega (arith, number_is))) (λ connects. absurd (omega (arith, number_is, given number connects))))
      | joined old agreement there unagreed connects becomes ↦
          let W : Call → Type 0 = λ c. WasConnected tables grown number (connected_of c.agreed) in
          let it = connected_here number old agreement connects in
          subst W (sym becomes) (last, it.0, it.1)
    ]

    unused_next : IsTimed tables before world → (number : ℕ) → next.next ≤ number → (moment : Moment tables grown) → HasConnected moment number → ⊥
    unused_next timed number past moment connects =
        let grows = next_grows tables before world entry next (length before) right step in
        elim (which number moment connects) [
          | inl earlier ↦ timed.unused number (omega (arith, grows, past)) earlier.0 earlier.1
          | inr it ↦ absurd (omega (arith, grows, past, given number it))
        ]

    timed_next : IsTimed tables before world → IsTimed tables grown next
    timed_next timed = record { connected = connected_next timed; unused = unused_next timed }

  step_timed : (tables : Tables) (before : List (Entry A)) (world : World) (entry : Entry A) (next : World)
      → IsTimed tables before world × Run tables before world → Step tables before world entry next
      → IsTimed tables (before ++ entry ∷ []) next × Run tables (before ++ entry ∷ []) next
  step_timed tables before world entry next old step = (
    timed_next tables before world entry next old.1 (run_right tables before world old.1) step old.0,
    run_push tables [] (opening (line_count tables)) before world entry next old.1 step,
  )

  -- the empty history has no moment
  no_moment : (tables : Tables) → Moment {A = A} tables [] → ⊥
  no_moment tables moment = by moment.before moment.splits where
    by : (front : List (Entry A)) → [] ≡ front ++ moment.entry ∷ moment.rest → ⊥
    by [] is = absurd (cc)
    by (first ∷ front) is = absurd (cc)

  opening_timed : (tables : Tables) → IsTimed tables [] (opening (line_count tables))
  opening_timed tables = record {
    connected = λ n c is. let none_live : call_numbered (opening (line_count tables)) n ≡ None = get-empty nat_cmp n in absurd (cc);
    unused = λ n past moment connects. no_moment tables moment;
  }

  pub run_timed : (tables : Tables) (history : List (Entry A)) (world : World) → Run tables history world → IsTimed tables history world
  run_timed tables history world run =
      (run_keeps (λ before w. IsTimed tables before w × Run tables before w) tables (step_timed tables) [] (opening (line_count tables)) history world
      (opening_timed tables, refl) run).0
