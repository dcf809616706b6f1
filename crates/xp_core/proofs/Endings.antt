-- There is one record for each call that ended.
use Rattle.std.proofs.Common.{◌≡◌, ℕ, ◌+◌, ◌≤◌, ◌<◌, append-nil, Option, Some, None, List, [], ◌∷◌, ◌++◌, All, length, refl, ap, sym, subst, ◌∙◌, inl, inr, arith}
use Rattle.std.proofs.lemmas.Bool.{cases_lt}
use Rattle.std.proofs.lemmas.List.Elements.{All-nil, All-cons, All-same}
use Rattle.xp_causes.specs.declared.clearing_cause.TheConstants.{NUMBER_BUSY}
use Rattle.xp_causes.specs.declared.diagnostic.TheConstants.{CALL_COLLISION}
use Rattle.xp_causes.specs.declared.refusal.Refusal.{Refusal}
use Rattle.xp_packets.specs.declared.block.Block.{Block}
use Rattle.xp_packets.specs.declared.end.End.{End}
use Rattle.xp_packets.specs.declared.end.End.TheVariants.{Caller, Called}
use Rattle.xp_packets.specs.declared.packet.Packet.TheVariants.{Clear}
use Rattle.xp_subs.specs.Tables.{Tables, line_count}
use Rattle.xp_step.specs.declared.entry.Entry.{Entry}
use Rattle.xp_machine.specs.Changes.{Change, Rises, Leaves, Begins, IsRefused, Connects, Ends, all_changed, changed, recorded, recorded_by}
use Rattle.xp_machine.specs.Clearing.{record_of, refused_record}
use Rattle.xp_core.specs.Records.{Begins as HasBegun, Ends as HasEnded, IsLive, IsRecordOf, Moment, OneRecordEach, clears_to, count_of}
use Rattle.xp_step.specs.Run.{Run}
use Rattle.xp_step.specs.Outcomes.{payer_of, taken_by}
use Rattle.xp_step.specs.Segments.{segments_if_live, segments_of}
use Rattle.xp_step.specs.StepContext.{step_context}
use Rattle.xp_step.specs.Effects.{changes_of}
use Rattle.xp_step.specs.Table.{CallRequest, action_at}
use Rattle.xp_step.specs.EventOutputs.{outputs_of}
use Rattle.xp_machine.specs.World.{Call, World, call_numbered, far_end, opening}
use Rattle.xp_machine.proofs.Coupled.{CanBe}
use Rattle.xp_core.proofs.Ledger.{IsBegun, IsBooked, Tallies, begun_still, live_none, live_of, run_booked, step_tallies}
use Rattle.xp_machine.proofs.Maps.{get_gone, get_other}
use Rattle.xp_core.proofs.Moments.{IsTimed, run_timed}
use Rattle.xp_step.proofs.RunLemmas.{run_split}
use Rattle.xp_core.proofs.Shapes.{ComesOf, IsNew, none, one, two, cancelled_by}
use Rattle.xp_core.proofs.Sounds.{IsRight, cancel_right, run_right, shape_of}

-- a number that is not yet given is no live call's
none_of : (world : World) (number : ℕ) → (IsLive world number → ⊥) → live_of world number ≡ 0
none_of world number gone = grind (arith, live_none, live_of)

module _ {A : Type 0} where
  module _ (tables : Tables) (history : List (Entry A)) (moment : Moment tables history) where
    right : IsRight tables (length moment.before) moment.world
    right = run_right tables moment.before moment.world moment.run

    booked : IsBooked tables moment.before moment.world
    booked = run_booked tables moment.before moment.world moment.run

    timed : IsTimed tables moment.before moment.world
    timed = run_timed tables moment.before moment.world moment.run

    tallies : Tallies moment.world moment.next moment.entry.records.items
    tallies = step_tallies tables moment.before moment.world moment.entry moment.next _ right moment.step

    -- the segments of the calls so far
    abbrev counted : ℕ → Call → End → ℕ
    counted = segments_of tables moment.before

    abbrev Comes : Change → Type 0
    Comes change = ComesOf (step_context tables moment.before moment.world moment.entry.event.line moment.entry.event.moment) moment.entry.event.what
        (action_at moment.world moment.entry.event) moment.entry.outcome moment.step.told change

    -- the record of a call that was refused here, from a world of the same numbers
    refused_recorded : (w : World) (line identifier : ℕ) (dialled : List ℕ) (why : Refusal) → w.next ≡ moment.world.next
        → (call_numbered moment.next w.next ≡ None) → Comes (IsRefused line identifier dialled why)
        → IsRecordOf moment (refused_record w.next moment.entry.event.moment line dialled why)
    refused_recorded w line identifier dialled why same missing from =
        let request : HasBegun moment w.next from.asked.request = record { asks = from.asked.asks; new = from.asked.new; numbered = same } in
        let fresh : call_numbered moment.world w.next ≡ None = right.sound.fresh w.next (omega (arith, same)) in
        let none : (end : End) → 0 ≡ segments_if_live tables moment.before w.next (call_numbered moment.world w.next) end =
        λ end. ap (λ found. segments_if_live tables moment.before w.next found end) (sym fresh) in
        record {
          ends = grind arith;
          beginning = moment;
          request = from.asked.request;
          begins = request;
          caller = from.asked.line_is;
          called = sym (ap taken_by from.turned);
          dialled = from.asked.dialled_is;
          payer = sym (ap payer_of from.turned);
          from_caller = none Caller;
          from_called = none Called;
          requested = refl;
          connected = timed.unused w.next (omega (arith, same));
          ended = refl;
          block = None;
          told = ap (clears_to line) moment.step.outputs ∙ from.tells;
        }

    -- the record of a live call that ended here
    ended_recorded_as : (number : ℕ) (call : Call) (line cause diagnostic : ℕ) (block : Option (Block A)) → call_numbered moment.world number ≡ Some call
        → call_numbered moment.next number ≡ None → line ≡ moment.entry.event.line
        → clears_to (far_end call line) (outputs_of moment.step.told) ≡ Clear cause (Some diagnostic) block ∷ []
        → IsRecordOf moment (record_of number call (counted number call) moment.entry.event.moment cause diagnostic)
    ended_recorded_as number call line cause diagnostic block live missing at tells =
        let begun : IsBegun tables history number call =
        begun_still tables moment.before history (moment.entry ∷ moment.rest) moment.splits number call (booked.begun number call live) in
        let Q : ℕ → Type 0 = λ l. clears_to (far_end call l) moment.entry.outputs ≡ Clear cause (Some diagnostic) block ∷ [] in
        record {
          ends = grind arith;
          beginning = begun.beginning;
          request = begun.request;
          begins = begun.begins;
          caller = begun.caller;
          called = begun.called;
          dialled = begun.dialled;
          payer = begun.payer;
          from_caller = ap (λ found. segments_if_live tables moment.before number found Caller) (sym live);
          from_called = ap (λ found. segments_if_live tables moment.before number found Called) (sym live);
          requested = begun.requested;
          connected = timed.connected number call live;
          ended = refl;
          block = block;
          told = subst Q at (ap (clears_to (far_end call line)) moment.step.outputs ∙ tells);
        }

    leads_by : (changes : List Change) → changes_of tables moment.before moment.world moment.entry ≡ changes → moment.next ≡ all_changed changes moment.world
    leads_by changes is = moment.step.leads ∙ ap (λ c. all_changed c moment.world) is

    of_change : (change : Change) → moment.next ≡ changed change moment.world → CanBe moment.world change → Comes change
        → All (IsRecordOf moment) (recorded counted moment.entry.event.moment moment.world change)
    of_change (Rises line) leads can from = All-nil (IsRecordOf moment)
    of_change (Leaves line way) leads can from = All-nil (IsRecordOf moment)
    of_change (Begins line identifier called dialled setup requested) leads can from = All-nil (IsRecordOf moment)
    of_change (Connects number call agreement) leads can from = All-nil (IsRecordOf moment)
    of_change (IsRefused line identifier dialled why) leads can from =
        All-cons (IsRecordOf moment) (refused_record moment.world.next moment.entry.event.moment line dialled why) []
        (refused_recorded moment.world line identifier dialled why refl (ap (λ w. call_numbered w moment.world.next) leads ∙ right.sound.fresh moment.world.next (omega arith)) from)
        (All-nil (IsRecordOf moment))
    of_change (Ends number call line way cause diagnostic) leads can from =
        All-cons (IsRecordOf moment) (record_of number call (counted number call) moment.entry.event.moment cause diagnostic) []
        (ended_recorded_as number call line cause diagnostic from.block can.live
        (ap (λ w. call_numbered w number) leads ∙ get_gone moment.world.calls number number refl) from.line_is from.tells)
        (All-nil (IsRecordOf moment))

    -- a collision: the record of the cancelled call, and then that of the line's own call where it is refused
    module _ (number : ℕ) (call : Call) (new : IsNew (action_at moment.world moment.entry.event)) (first : CanBe moment.world (cancelled_by number call moment.entry.event.line)) where
      abbrev ends : Change
      ends = cancelled_by number call moment.entry.event.line

      abbrev mid : World
      mid = changed ends moment.world

      mid_right : IsRight tables (length moment.before) mid
      mid_right = cancel_right tables (length moment.before) moment.world number call moment.entry.event.line right first

      below : number < moment.world.next
      below = grind (arith, cases_lt, right)

      gone : (change : Change) → moment.next ≡ changed change mid → Comes change → call_numbered moment.next number ≡ None
      gone change leads from = grind (arith, below, get_gone, get_other)

      second_recorded : (change : Change) → moment.next ≡ changed change mid → Comes change → All (IsRecordOf moment) (recorded counted moment.entry.event.moment mid change)
      second_recorded (Rises line) leads from = All-nil (IsRecordOf moment)
      second_recorded (Leaves line way) leads from = All-nil (IsRecordOf moment)
      second_recorded (Begins line identifier called dialled setup requested) leads from = All-nil (IsRecordOf moment)
      second_recorded (Connects n c agreement) leads from = All-nil (IsRecordOf moment)
      second_recorded (IsRefused line identifier dialled why) leads from =
          All-cons (IsRecordOf moment) (refused_record mid.next moment.entry.event.moment line dialled why) []
          (refused_recorded mid line identifier dialled why refl (ap (λ w. call_numbered w mid.next) leads ∙ mid_right.sound.fresh mid.next (omega arith)) from)
          (All-nil (IsRecordOf moment))
      second_recorded (Ends n c line way cause diagnostic) leads from = absurd (from.old new)

      both_recorded : (change : Change) → moment.next ≡ changed change mid → Comes change
          → clears_to (far_end call moment.entry.event.line) (outputs_of moment.step.told) ≡ Clear NUMBER_BUSY (Some CALL_COLLISION) None ∷ []
          → All (IsRecordOf moment) (record_of number call (counted number call) moment.entry.event.moment NUMBER_BUSY CALL_COLLISION ∷ recorded counted moment.entry.event.moment mid change)
      both_recorded change leads from tells =
          All-cons (IsRecordOf moment) (record_of number call (counted number call) moment.entry.event.moment NUMBER_BUSY CALL_COLLISION) (recorded counted moment.entry.event.moment mid change)
          (ended_recorded_as number call moment.entry.event.line NUMBER_BUSY CALL_COLLISION None first.live (gone change leads from) refl tells)
          (second_recorded change leads from)

    each_recorded : All (IsRecordOf moment) moment.entry.records.items
    each_recorded = elim (shape_of tables moment.before moment.world moment.entry moment.next (length moment.before) right moment.step) [
      | none is old ↦ All-same (IsRecordOf moment) moment.entry.records.items [] (moment.step.records ∙ ap (recorded_by counted moment.entry.event.moment moment.world) is) (All-nil (IsRecordOf moment))
      | one change is can from ↦
          All-same (IsRecordOf moment) moment.entry.records.items (recorded counted moment.entry.event.moment moment.world change)
          (moment.step.records ∙ ap (recorded_by counted moment.entry.event.moment moment.world) is ∙ append-nil (recorded counted moment.entry.event.moment moment.world change))
          (of_change change (leads_by (change ∷ []) is) can from)
      | two number call change new is first can tells from ↦
          All-same (IsRecordOf moment) moment.entry.records.items (record_of number call (counted number call) moment.entry.event.moment NUMBER_BUSY CALL_COLLISION ∷ recorded counted moment.entry.event.moment (mid number call new first) change)
          (moment.step.records ∙ ap (recorded_by counted moment.entry.event.moment moment.world) is ∙ ap (λ more. record_of number call (counted number call) moment.entry.event.moment NUMBER_BUSY CALL_COLLISION ∷ more) (append-nil (recorded counted moment.entry.event.moment (mid number call new first) change)))
          (both_recorded number call new first change (leads_by (ends number call new first ∷ change ∷ []) is) from tells)
    ]

    few_of : (w : World) (change : Change) → length (recorded counted moment.entry.event.moment w change) ≤ 1
    few_of w change = grind arith

    few_recorded : length moment.entry.records.items ≤ 2
    few_recorded = grind (arith, append-nil, few_of, right, shape_of)

    -- a new call uses a number
    numbers : (w : World) (change : Change) → IsNew (action_at moment.world moment.entry.event) → Comes change → (changed change w).next ≡ w.next + 1
    numbers w change new from = grind arith

    begun_counts : (request : CallRequest A) (number : ℕ) → HasBegun moment number request → moment.world.next < moment.next.next
    begun_counts request number begins = grind (arith, leads_by, numbers, right, shape_of)

    ended_recorded : (number : ℕ) → HasEnded moment number → count_of number moment.entry.records.items ≡ 1
    ended_recorded number ended =
        let gone : live_of moment.next number ≡ 0 = none_of moment.next number ended.gone in
        elim ended.was [
          | inl live ↦ grind (arith, below, cases_lt, gone, live_of, right, tallies)
          | inr begun ↦ grind (arith, begun_counts, gone, live_none, live_of, right, tallies)
        ]

  place_of : (tables : Tables) (history : List (Entry A)) (world : World) → Run tables history world
      → (before : List (Entry A)) (entry : Entry A) (rest : List (Entry A)) → history ≡ before ++ entry ∷ rest
      → (moment : Moment tables history) × (moment.before ≡ before) × (moment.entry ≡ entry)
  place_of tables history world run before entry rest splits =
      let P : List (Entry A) → Type 0 = λ entries. Run tables entries world in
      let found = run_split tables [] (opening (line_count tables)) before entry rest world (subst P splits run) in
      let moment : Moment tables history = record {
        before = before;
        entry = entry;
        rest = rest;
        world = found.0;
        next = found.1;
        splits = splits;
        run = found.2;
        step = found.3;
      } in (moment, refl, refl)

  pub one_record_each : (tables : Tables) (history : List (Entry A)) (world : World) → Run tables history world → OneRecordEach tables history world
  one_record_each tables history world run =
      let booked : IsBooked tables history world = run_booked tables history world run in
      record {
        places = place_of tables history world run;
        each = each_recorded tables history;
        ended = ended_recorded tables history;
        once = booked.once;
        fresh = booked.fresh;
        kept = booked.kept;
        few = few_recorded tables history;
      }
