-- Each number given has one live call or one record.
use Rattle.std.proofs.Common.{◌≡◌, ◌≢◌, ℕ, ◌+◌, ◌<◌, ◌≤◌, cond, eqb, is_some, Option, Some, None, List, [], ◌∷◌, ◌++◌, length, refl, ap, sym, subst, ◌∙◌, inl, inr, arith, append_assoc, append-nil}
use Rattle.std.proofs.lemmas.Bool.{eq-eqb, ne_eqb, cases_eq, cases_lt}
use Rattle.std.proofs.lemmas.List.Concat.{flat_map-append}
use Rattle.std.specs.FinMap.{get-empty}
use Rattle.std.specs.Ordering.{nat_cmp}
use Rattle.xp_packets.specs.declared.end.End.{End}
use Rattle.xp_subs.specs.Tables.{Tables, line_count}
use Rattle.xp_step.specs.declared.entry.Entry.{Entry}
use Rattle.xp_charge.specs.declared.record.Record.{Record}
use Rattle.xp_machine.specs.Changes.{Change, Rises, Leaves, Begins, IsRefused, Connects, Ends, all_changed, changed, recorded, recorded_by}
use Rattle.xp_core.specs.Records.{Begins as HasBegun, Moment, count_of, holders, records_of}
use Rattle.xp_step.specs.Outcomes.{payer_of, taken_by}
use Rattle.xp_step.specs.Run.{Run}
use Rattle.xp_step.specs.Segments.{segments_of}
use Rattle.xp_step.specs.StepContext.{step_context}
use Rattle.xp_step.specs.Step.{Step}
use Rattle.xp_step.specs.Effects.{changes_of}
use Rattle.xp_step.specs.Table.{CallRequest, action_at}
use Rattle.xp_machine.specs.World.{Call, World, call_numbered, opening}
use Rattle.xp_core.proofs.Counts.{count_by-append, count_by-cons}
use Rattle.xp_machine.proofs.Coupled.{CanBe}
use Rattle.xp_machine.proofs.Maps.{get_gone, get_left, get_new, get_other, new_or_old, was_there}
use Rattle.xp_step.proofs.RunLemmas.{run_keeps, run_push}
use Rattle.xp_core.proofs.Shapes.{none, one, two, ComesOf, cancelled_by}
use Rattle.xp_core.proofs.Sounds.{IsRight, cancel_right, run_right, shape_of}

-- 1 for a live call, else 0
abbrev pub live_of : World → ℕ → ℕ
live_of world number = cond (is_some (call_numbered world number)) 1 0

live_is : (world : World) (number : ℕ) (call : Call) → call_numbered world number ≡ Some call → live_of world number ≡ 1
live_is world number call is = ap {A = Option Call} {B = ℕ} (λ found. cond (is_some found) 1 0) is

pub live_none : (world : World) (number : ℕ) → call_numbered world number ≡ None → live_of world number ≡ 0
live_none world number is = ap {A = Option Call} {B = ℕ} (λ found. cond (is_some found) 1 0) is

live_same : (world next : World) (number : ℕ) → call_numbered next number ≡ call_numbered world number → live_of next number ≡ live_of world number
live_same world next number same = ap {A = Option Call} {B = ℕ} (λ found. cond (is_some found) 1 0) same

count_of-append : (number : ℕ) (records more : List Record) → count_of number (records ++ more) ≡ count_of number records + count_of number more
count_of-append number records more = count_by-append (λ charged. eqb charged.number number) records more

count_of-one : (number : ℕ) (charged : Record) → charged.number ≡ number → count_of number (charged ∷ []) ≡ 1
count_of-one number charged same = grind (arith, count_by-cons, eq-eqb)

count_of-other : (number : ℕ) (charged : Record) → charged.number ≢ number → count_of number (charged ∷ []) ≡ 0
count_of-other number charged other = grind (arith, count_by-cons, ne_eqb)

-- a number given before keeps its call or gets a record, and one given now has either
pub record Tallies (world next : World) (records : List Record) : Type 0 where
  pub grows : world.next ≤ next.next
  pub old : (number : ℕ) → number < world.next → count_of number records + live_of next number ≡ live_of world number
  pub new : (number : ℕ) → world.next ≤ number → number < next.next → count_of number records + live_of next number ≡ live_of world number + 1
  pub beyond : (number : ℕ) → next.next ≤ number → count_of number records + live_of next number ≡ live_of world number

tallies_same : (world next : World) → next.next ≡ world.next → ((number : ℕ) → call_numbered next number ≡ call_numbered world number) → Tallies world next []
tallies_same world next number same = grind (arith, live_same)

pub changed_tallies : (counted : ℕ → Call → End → ℕ) (moment : ℕ) (world : World) (change : Change) → ((number : ℕ) → world.next ≤ number → call_numbered world number ≡ None)
    → CanBe world change → Tallies world (changed change world) (recorded counted moment world change)
changed_tallies counted moment world change fresh can = grind (arith, cases_eq, count_of-one, count_of-other, get_gone, get_left, get_new, get_other, live_is, live_none, live_same, tallies_same)

-- one after the other, the first of which gives no number
tallies_both : (world mid next : World) (records more : List Record) → mid.next ≡ world.next → Tallies world mid records → Tallies mid next more → Tallies world next (records ++ more)
tallies_both world mid next records more same first then = record {
  grows = omega (arith, same, then.grows);
  old = λ n below. omega (arith, count_of-append n records more, first.old n below, then.old n (omega (arith, same, below)));
  new = λ n past below. omega (arith, count_of-append n records more, first.beyond n (omega (arith, same, past)), then.new n (omega (arith, same, past)) below);
  beyond = λ n past. omega (arith, count_of-append n records more, first.beyond n (omega (arith, same, past, then.grows)), then.beyond n past);
}

module _ {A : Type 0} where
  pub step_tallies : (tables : Tables) (before : List (Entry A)) (world : World) (entry : Entry A) (next : World) (entries : ℕ) → IsRight tables entries world
      → (step : Step tables before world entry next) → Tallies world next entry.records.items
  step_tallies tables before world entry next entries right step =
      let P : World → List Record → Type 0 = λ w records. Tallies world w records in
      let Q : World → Type 0 = λ w. P w entry.records.items in
      let changes : List Change = changes_of tables before world entry in
      let counted : ℕ → Call → End → ℕ = segments_of tables before in
      subst Q (sym step.leads) (subst (P (all_changed changes world)) (sym step.records) (
      let R : List Change → Type 0 = λ changes. P (all_changed changes world) (recorded_by counted entry.event.moment world changes) in
      elim (shape_of tables before world entry next entries right step) [
        | none is old ↦ subst R (sym is) (tallies_same world world refl (λ number. refl))
        | one change is can from ↦
            let tallies = changed_tallies counted entry.event.moment world change right.sound.fresh can in
            subst R (sym is) (subst (P (changed change world)) (sym (append-nil (recorded counted entry.event.moment world change))) tallies)
        | two number call change new is first can told from ↦
            let ends : Change = cancelled_by number call entry.event.line in
            let mid : World = changed ends world in
            let after = cancel_right tables entries world number call entry.event.line right first in
            let both = tallies_both world mid (changed change mid) (recorded counted entry.event.moment world ends) (recorded counted entry.event.moment mid change) refl
            (changed_tallies counted entry.event.moment world ends right.sound.fresh first) (changed_tallies counted entry.event.moment mid change after.sound.fresh can) in
            subst R (sym is) (subst (P (changed change mid)) (ap (λ more. recorded counted entry.event.moment world ends ++ more) (sym (append-nil (recorded counted entry.event.moment mid change)))) both)
      ]))

  -- this live call was begun at a moment of the history
  pub record IsBegun (tables : Tables) (history : List (Entry A)) (number : ℕ) (call : Call) : Type 0 where
    pub beginning : Moment tables history
    pub request : CallRequest A
    pub begins : HasBegun beginning number request
    pub caller : call.caller ≡ beginning.entry.event.line
    pub called : Some call.called ≡ taken_by beginning.entry.outcome
    pub payer : call.setup.payer ≡ payer_of beginning.entry.outcome
    pub dialled : call.dialled ≡ request.block.called
    pub requested : call.requested ≡ beginning.entry.event.moment

  pub record IsBooked (tables : Tables) (before : List (Entry A)) (world : World) : Type 0 where
    pub once : (number : ℕ) → holders before world number ≤ 1
    pub fresh : (number : ℕ) → world.next ≤ number → holders before world number ≡ 0
    pub kept : (number : ℕ) → 1 ≤ number → number < world.next → holders before world number ≡ 1
    pub begun : (number : ℕ) (call : Call) → call_numbered world number ≡ Some call → IsBegun tables before number call

  -- a moment of the front of a history is one of the history
  abbrev pub lift : (tables : Tables) (front history more : List (Entry A)) → history ≡ front ++ more → Moment tables front → Moment tables history
  lift tables front history more is moment = record {
    before = moment.before;
    entry = moment.entry;
    rest = moment.rest ++ more;
    world = moment.world;
    next = moment.next;
    splits = is ∙ ap (λ entries. entries ++ more) moment.splits ∙ append_assoc moment.before (moment.entry ∷ moment.rest) more;
    run = moment.run;
    step = moment.step;
  }

  pub begun_still : (tables : Tables) (front history more : List (Entry A)) → history ≡ front ++ more → (number : ℕ) (call : Call) → IsBegun tables front number call → IsBegun tables history number call
  begun_still tables front history more is number call begun = record {
    beginning = lift tables front history more is begun.beginning;
    request = begun.request;
    begins = record { asks = begun.begins.asks; new = begun.begins.new; numbered = begun.begins.numbered };
    caller = begun.caller;
    called = begun.called;
    payer = begun.payer;
    dialled = begun.dialled;
    requested = begun.requested;
  }

  abbrev pub here : (tables : Tables) (before : List (Entry A)) (world : World) (entry : Entry A) (next : World)
      → Run tables before world → Step tables before world entry next → Moment tables (before ++ entry ∷ [])
  here tables before world entry next run step = record {
    before = before;
    entry = entry;
    rest = [];
    world = world;
    next = next;
    splits = refl;
    run = run;
    step = step;
  }

  module _ (tables : Tables) (before : List (Entry A)) (world : World) (entry : Entry A) (next : World) (run : Run tables before world) (step : Step tables before world entry next)
      (begun : (number : ℕ) (call : Call) → call_numbered world number ≡ Some call → IsBegun tables (before ++ entry ∷ []) number call) where
    abbrev Begun : World → Type 0
    Begun w = (number : ℕ) (call : Call) → call_numbered w number ≡ Some call → IsBegun tables (before ++ entry ∷ []) number call

    begun_changed : (change : Change) (w : World) → w.next ≡ world.next → Begun w → CanBe w change
        → ComesOf (step_context tables before world entry.event.line entry.event.moment) entry.event.what (action_at world entry.event) entry.outcome step.told change
        → Begun (changed change w)
    begun_changed (Rises line) w same old can from = old
    begun_changed (Leaves line way) w same old can from = old
    begun_changed (IsRefused line identifier dialled why) w same old can from = old
    begun_changed (Connects number call agreement) w same old can from = λ n c is.
        elim (new_or_old w.calls number (record call { agreed = Some agreement }) n c is) [
          | inl new ↦
              let P : ℕ → Type 0 = λ m. IsBegun tables (before ++ entry ∷ []) m c in
              let Q : Call → Type 0 = λ x. IsBegun tables (before ++ entry ∷ []) number x in
              let was = old number call can in
              subst P (sym new.0) (subst Q new.1 (record {
                beginning = was.beginning;
                request = was.request;
                begins = was.begins;
                caller = was.caller;
                called = was.called;
                payer = was.payer;
                dialled = was.dialled;
                requested = was.requested;
              }))
          | inr before_it ↦ old n c before_it.1
        ]
    begun_changed (Ends number call line way cause diagnostic) w same old can from = λ n c is. old n c (was_there w.calls number n c is).1
    begun_changed (Begins line identifier called dialled setup requested) w same old can from = λ n c is.
        elim (new_or_old w.calls w.next (record { caller = line; called = called; dialled = dialled; setup = setup; requested = requested; agreed = None }) n c is) [
          | inl new ↦ record {
            beginning = here tables before world entry next run step;
            request = from.asked.request;
            begins = record { asks = from.asked.asks; new = from.asked.new; numbered = new.0 ∙ same };
            caller = sym (ap (λ x. x.caller) new.1) ∙ from.asked.line_is;
            called = ap (λ x. Some x.called) (sym new.1) ∙ sym (ap taken_by from.took);
            payer = ap (λ x. x.setup.payer) (sym new.1) ∙ sym (ap payer_of from.took);
            dialled = sym (ap (λ x. x.dialled) new.1) ∙ from.asked.dialled_is;
            requested = sym (ap (λ x. x.requested) new.1) ∙ from.requested_is;
          }
          | inr earlier ↦ old n c earlier.1
        ]

    begun_next : IsRight tables (length before) world → Begun next
    begun_next right =
        let Q : World → Type 0 = λ w. Begun w in
        elim (shape_of tables before world entry next (length before) right step) [
          | none is old ↦ subst Q (sym (step.leads ∙ ap (λ changes. all_changed changes world) is)) begun
          | one change is can from ↦ subst Q (sym (step.leads ∙ ap (λ changes. all_changed changes world) is)) (begun_changed change world refl begun can from)
          | two number call change new is first can told from ↦
              let ends : Change = cancelled_by number call entry.event.line in
              subst Q (sym (step.leads ∙ ap (λ changes. all_changed changes world) is))
              (begun_changed change (changed ends world) refl (λ n c there. begun n c (was_there world.calls number n c there).1) can from)
        ]

  step_booked : (tables : Tables) (before : List (Entry A)) (world : World) (entry : Entry A) (next : World)
      → IsBooked tables before world × Run tables before world → Step tables before world entry next
      → IsBooked tables (before ++ entry ∷ []) next × Run tables (before ++ entry ∷ []) next
  step_booked tables before world entry next old step =
      let right = run_right tables before world old.1 in
      let tallies = step_tallies tables before world entry next _ right step in
      let booked = old.0 in
      let grown : records_of (before ++ entry ∷ []) ≡ records_of before ++ entry.records.items =
      flat_map-append (λ e. e.records.items) before (entry ∷ []) ∙ ap (λ records. records_of before ++ records) (append-nil entry.records.items) in
      let counted : (n : ℕ) → count_of n (records_of (before ++ entry ∷ [])) ≡ count_of n (records_of before) + count_of n entry.records.items =
      λ n. ap (count_of n) grown ∙ count_of-append n (records_of before) entry.records.items in
      let still : (n : ℕ) → n < world.next → holders (before ++ entry ∷ []) next n ≡ holders before world n = λ n below. omega (arith, counted n, tallies.old n below) in
      let given : (n : ℕ) → world.next ≤ n → n < next.next → holders (before ++ entry ∷ []) next n ≡ 1 =
      λ n past below. omega (arith, counted n, tallies.new n past below, booked.fresh n past) in
      let none_yet : (n : ℕ) → next.next ≤ n → holders (before ++ entry ∷ []) next n ≡ 0 =
      λ n past. omega (arith, counted n, tallies.beyond n past, booked.fresh n (omega (arith, past, tallies.grows))) in (
        record {
          once = grind (arith, cases_lt);
          fresh = none_yet;
          kept = grind (arith, cases_lt);
          begun = begun_next tables before world entry next old.1 step
              (λ n c is. begun_still tables before (before ++ entry ∷ []) (entry ∷ []) refl n c (booked.begun n c is)) right;
        },
        run_push tables [] (opening (line_count tables)) before world entry next old.1 step,
      )

  opening_booked : (tables : Tables) → IsBooked tables [] (opening (line_count tables))
  opening_booked tables =
      let none_live : (n : ℕ) → live_of (opening (line_count tables)) n ≡ 0 = λ n. live_none (opening (line_count tables)) n (get-empty nat_cmp n) in
      record {
        once = λ n. omega (arith, none_live n);
        fresh = λ n past. omega (arith, none_live n);
        kept = λ n from below. absurd (omega (arith, from, below));
        begun = λ n c is. let none : call_numbered (opening (line_count tables)) n ≡ None = get-empty nat_cmp n in absurd (cc);
      }

  pub run_booked : (tables : Tables) (history : List (Entry A)) (world : World) → Run tables history world → IsBooked tables history world
  run_booked tables history world run =
      (run_keeps (λ before w. IsBooked tables before w × Run tables before w) tables (step_booked tables) [] (opening (line_count tables)) history world
      (opening_booked tables, refl) run).0
