-- An event is entered, and then the stalls that it forces, one after the other.
use Rattle.std.proofs.Common.{◌≡◌, ◌≢◌, ℕ, suc, ◌+◌, ◌*◌, ◌<◌, ◌≤◌, true, false, true≢false, None, Some, List, [], ◌∷◌, ◌++◌, length, sym, refl, ap, ◌∙◌, subst, inl, inr, arith, append_assoc, append-nil, length-append}
use Rattle.std.proofs.lemmas.Bool.{cases_lt}
use Rattle.std.proofs.lemmas.Grind.{flat_map-append}
use Rattle.std.proofs.lemmas.List.{flat_map_more, length_push}
use Rattle.std.proofs.lemmas.List.Elements.{All-nil, All-push}
use Rattle.xp_outbox.specs.Ends.{Putting}
use Rattle.xp_subs.specs.Tables.{line_count}
use Rattle.xp_step.specs.declared.entry.Entry.{Entry}
use Rattle.xp_step.specs.declared.event.Event.{Event}
use Rattle.xp_step.specs.declared.event.What.{What}
use Rattle.xp_step.specs.declared.event.What.TheVariants as events
use Rattle.xp_step.specs.declared.output.Outgoing.{Outgoing}
use Rattle.xp_machine.specs.Channel.{is_off}
use Rattle.xp_core.specs.OutputsPerLine.{AreFew}
use Rattle.xp_step.specs.Exchange.{Advances, Exchange, world_of}
use Rattle.xp_core.specs.Records.{records_of}
use Rattle.xp_core.specs.steps.Stalls.{stall_of}
use Rattle.xp_step.specs.Run.{Run}
use Rattle.xp_step.specs.Stalls.{left_after}
use Rattle.xp_step.specs.Step.{Step}
use Rattle.xp_step.specs.Worlds.{world_after}
use Rattle.xp_machine.specs.World.{World, line_at, state_at}
use Rattle.xp_lock.specs.declared.receipt.Receipt.{Receipt}
use Rattle.xp_lock.specs.Given.{AreGiven}
use Rattle.xp_lock.specs.steps.Given.{with_lines}
use Rattle.xp_lock.specs.Outboxes.{PLACES_KEPT, outbox_at}
use Rattle.xp_lock.specs.steps.Outboxes.{AreAlike, HasRoomFor, IsPut, OutboxesMatch}
use Rattle.xp_lock.specs.Forced.{AreAt, Forces, IsDue, IsLowestDue, IsQuiet, Stalls}
use Rattle.xp_lock.specs.Outgoing.{put_out_to, to_line}
use Rattle.xp_lock.specs.steps.Stalling.{CanEnter, IsSearched, is_short, lowest_short, with_outboxes}
use Rattle.xp_lock.specs.Locked.{Locked, Takes, is_up}
use Rattle.xp_seats.specs.Handed.{is_stall}
use Rattle.xp_lock.proofs.Among.{Among, among_is, is_from, without}
use Rattle.xp_lock.proofs.Calls.{AreClosed, closed_after}
use Rattle.xp_lock.proofs.GivenLines.{count_more, given_few, given_more, given_none}
use Rattle.xp_lock.proofs.Known.{AreGivenOut, MayBe, as_many, known_before, looked_out, more_out, none_out, since_look}
use Rattle.xp_lock.proofs.Lowest.{IsLowest, lowest_is, none_passes, short_from, short_parts}
use Rattle.xp_lock.proofs.Putting.{box_there}
use Rattle.xp_lock.proofs.Stalled.{closed_next, few, goes_among, off_after, stays_off, was_on}
use Rattle.xp_lock.proofs.Three.{goes_to, rises, served, trio}

-- an event uses one of the prepared stalls up, or none
pub left_least : {A : Type 0} (what : What A) (stalls : ℕ) → stalls ≤ left_after what stalls + 1
left_least events.Stall stalls = omega arith
left_least what stalls = omega arith

-- one that is no stall uses none up
pub left_others : {A : Type 0} (what : What A) (stalls : ℕ) → is_stall what ≡ false → left_after what stalls ≡ stalls
left_others events.Stall stalls kind = absurd (true≢false kind)
left_others what stalls kind = refl

pub left_most : {A : Type 0} (what : What A) (stalls : ℕ) → left_after what stalls ≤ stalls
left_most events.Stall stalls = omega arith
left_most what stalls = omega arith

module _ {A : Type 0} (old : Locked A) (event : Event A) where
  abbrev world : World
  world = world_after old.subs old.history

  -- the lines that an event may put something out to
  abbrev three : Entry A → List ℕ
  three entry = trio world entry.event.line entry.outcome

  abbrev is_at : Entry A → Entry A → Type 0
  is_at entry stall = stall.event.moment ≡ entry.event.moment

  -- the event was entered with this number, and so far some stalls, of so many that were prepared, and these lines were given something
  pub record Entering (now : Exchange A) (after : List (Putting (Outgoing A))) (number : ℕ) (lines : List ℕ) (prepared : ℕ) : Type 0 where
    pub entry : Entry A
    pub number_is : number ≡ entry.number
    pub event_is : entry.event ≡ event
    pub next : World
    pub step : Step old.subs old.history world entry next
    pub stalls : List (Entry A)
    -- more may follow them, however many places there turn out to be
    pub forced : (places : ℕ → ℕ) → MayBe (world_of now) (known_before (entry ∷ stalls) after) places → (more : List (Entry A)) (last : World)
        → Stalls old.subs old.history (world_of now) places (entry ∷ stalls) more last → Stalls old.subs old.history next places (entry ∷ []) (stalls ++ more) last
    pub moments : AreAt entry.event.moment stalls
    pub history : now.history ≡ old.history ++ entry ∷ stalls
    pub subs : now.subs ≡ old.subs
    pub handed_over : now.given ≡ old.given
    pub waiting : now.waiting ≡ old.waiting ++ records_of (entry ∷ stalls)
    pub enough : 3 ≤ prepared
    pub used : prepared ≤ now.stalls + length stalls
    pub count : length after ≡ length old.outboxes
    pub given : AreGiven (entry ∷ stalls) lines
    pub out : AreGivenOut old.outboxes (entry ∷ stalls) after
    pub few_out : (line : ℕ) → length (put_out_to line (entry ∷ stalls)) ≤ 17 + 2 * length stalls
    -- a line in service had its places
    pub had : (line : ℕ) → is_off (state_at (world_of now) line) ≡ false → PLACES_KEPT ≤ (outbox_at old.outboxes line).free
    pub closed : AreClosed (three entry) (world_of now)
    pub goes : (line : ℕ) → 0 < length (put_out_to line (entry ∷ stalls)) → Among (three entry) line
    -- those of the three that were not stalled
    pub left : List ℕ
    pub few_left : length left + length stalls ≤ 3
    pub all_left : (line : ℕ) → Among (three entry) line → is_off (state_at (world_of now) line) ≡ false → Among left line

  module _ (can : CanEnter old event) (now : Exchange A) (between after : List (Putting (Outgoing A))) (number : ℕ) (lines : List ℕ) (prepared : ℕ) (loop : Entering now between number lines prepared)
      (search : IsSearched now between after) where
    abbrev entries : List (Entry A)
    entries = loop.entry ∷ loop.stalls

    out_now : AreGivenOut old.outboxes entries after
    out_now = looked_out old.outboxes between after entries loop.out search.alike.each

    few_stalls : length loop.stalls ≤ 3
    few_stalls = let most = loop.few_left in omega (arith, most)

    -- how many prepared stalls are left
    pub stalls_left : prepared ≤ now.stalls + 3
    stalls_left = let used = loop.used in omega (arith, used, few_stalls)

    room_left : (line : ℕ) → is_off (state_at (world_of now) line) ≡ false → 7 ≤ (outbox_at after line).free + 2 * length loop.stalls
    room_left line on = let had = loop.had line on in let known = (out_now line).known in let out = loop.few_out line in omega (arith, had, known, out)

    -- a line that is due is one of those that were given something, and is short of places
    short_is : (places : ℕ → ℕ) → ((line : ℕ) → known_before entries after line ≤ places line) → (line : ℕ) → IsDue (world_of now) places entries line
        → Among lines line × (is_short now after line ≡ true)
    short_is places more line due = grind (arith, among_is, box_there, few, few_stalls, room_left, short_from)

    -- ---- none is due any more

    module _ (none : None ≡ lowest_short now after lines) (done : Receipt) (entered : done.entry ≡ number) (records : done.records ≡ length (records_of now.history))
        (connection : done.connection ≡ (line_at (world_of now) event.line).connection) (receipt : done.given.items ≡ lines) where
      quiet : IsQuiet (world_of now) (known_before entries after) entries
      quiet line due =
          let short = short_is (known_before entries after) (λ l. omega arith) line due in
          none_passes (is_short now after) lines none line short.0 short.1

      may_be : MayBe (world_of now) (known_before entries between) (known_before entries after)
      may_be = grind arith

      led : world_of now ≡ world_after old.subs (old.history ++ entries)
      led = ap (λ t. world_after t now.history) loop.subs ∙ ap (world_after old.subs) loop.history

      forces : Forces old.subs old.history world (known_before entries after) loop.entry loop.stalls (world_of now)
      forces = record {
        next = loop.next;
        step = loop.step;
        forced = subst (λ xs. Stalls old.subs old.history loop.next (known_before entries after) (loop.entry ∷ []) xs (world_of now)) (append-nil loop.stalls)
            (loop.forced (known_before entries after) may_be [] (world_of now) refl);
        quiet = quiet;
        moments = loop.moments;
      }

      pub taken : (first : List (Putting (Outgoing A))) → AreAlike first old.outboxes → Takes (record old { outboxes = first }) event done (with_outboxes now after)
      taken first alike = record {
        running = can.running;
        places = can.places;
        entered = record {
          forcing = record { entry = loop.entry; stalls = loop.stalls; places = known_before entries after };
          event_is = loop.event_is;
          forced = record { few = few_stalls; forces = subst (Forces old.subs old.history world (known_before entries after) loop.entry loop.stalls) led forces };
          history = loop.history;
          number = entered ∙ loop.number_is;
          records = records;
          connection = connection ∙ ap (λ t. (line_at (world_after t now.history) event.line).connection) loop.subs;
          given = subst (AreGiven entries) (sym receipt) loop.given;
        };
        filled = record { count = search.alike.count ∙ loop.count ∙ alike.count; each = since_look first old.outboxes after entries alike.each out_now };
        room = λ up. let enough = can.room up in let least = (out_now event.line).known in omega (arith, enough, least);
        rest = λ i. record { subs = loop.subs i; history = now.history; given = loop.handed_over i; waiting = loop.waiting i; outboxes = after; halted = sym can.running i };
      }

      -- a line in service has its places
      places_kept : (line : ℕ) → is_off (state_at (world_of now) line) ≡ false → PLACES_KEPT ≤ (outbox_at after line).free
      places_kept line on = grind (arith, cases_lt, out_now, quiet)

      pub kept : OutboxesMatch now.subs now.history after
      kept = grind (arith, few, few_stalls, flat_map-append, length-append, out_now, places_kept)

    -- ---- one more is stalled

    module _ (line : ℕ) (due : Some line ≡ lowest_short now after lines) where
      lowest : IsLowest (is_short now after) lines line
      lowest = lowest_is (is_short now after) lines line due

      parts : (line < length after) × ((outbox_at after line).free < PLACES_KEPT) × (is_off (state_at (world_of now) line) ≡ false)
      parts = short_parts now after line lowest.passes

      on : is_off (state_at (world_of now) line) ≡ false
      on = parts.2

      given_here : 0 < length (put_out_to line entries)
      given_here = (loop.given.each line).0 (is_from lines line lowest.there)

      others : (rest : List ℕ) × (length loop.left ≡ suc (length rest)) × ((other : ℕ) → other ≢ line → Among loop.left other → Among rest other)
      others = without loop.left line (loop.all_left line (loop.goes line given_here) on)

      at_most_two : length loop.stalls ≤ 2
      at_most_two = let one = others.1 in let most = loop.few_left in omega (arith, one, most)

      pub is_prepared : 0 < now.stalls
      is_prepared = let all = loop.enough in let used = loop.used in omega (arith, all, used, at_most_two)

      pub has_place : length now.history < now.subs.journal
      has_place = grind (arith, at_most_two, length-append)

      pub is_line : line < line_count now.subs
      is_line = grind (arith, kept, parts)

      module _ (run : Run now.subs now.history (world_of now)) (next : Exchange A) (stall : Entry A) (advances : Advances now (stall_of line event.moment) next stall) where
        here : stall.event.line ≡ line
        here = ap (λ e. e.line) advances.event_is

        what : stall.event.what ≡ events.Stall
        what = ap (λ e. e.what) advances.event_is

        stall_on : is_off (state_at (world_of now) stall.event.line) ≡ false
        stall_on = ap (λ l. is_off (state_at (world_of now) l)) here ∙ on

        three_here : Among (three loop.entry) stall.event.line
        three_here = subst (Among (three loop.entry)) (sym here) (loop.goes line given_here)

        few_more : (l : ℕ) → length (to_line l stall.outputs) ≤ 2
        few_more = few now.subs now.history (world_of now) run stall (world_of next) advances.step what stall_on

        pub room : HasRoomFor stall.outputs after
        room l = elim (cases_lt 0 (length (to_line l stall.outputs))) [
          | inl some ↦ omega (arith, room_left l (served now.subs now.history (world_of now) run stall (world_of next) advances.step l some), few_more l, at_most_two)
          | inr none ↦ omega (arith, none)
        ]

        goes_next : (l : ℕ) → 0 < length (put_out_to l (entries ++ stall ∷ [])) → Among (three loop.entry) l
        goes_next l some = elim (cases_lt 0 (length (put_out_to l entries))) [
          | inl before ↦ loop.goes l before
          | inr none ↦
              goes_among now.subs now.history (world_of now) run stall (world_of next) advances.step what stall_on (three loop.entry) loop.closed three_here l
              (omega (arith, some, none, count_more l entries stall))
        ]

        given_next : AreGiven (entries ++ stall ∷ []) (with_lines lines stall.outputs)
        given_next = given_more entries stall lines loop.given

        pub few_given : length (with_lines lines stall.outputs) ≤ 3
        few_given = given_few (entries ++ stall ∷ []) (with_lines lines stall.outputs) (three loop.entry) given_next goes_next

        module _ (last : List (Putting (Outgoing A))) (put : IsPut stall.outputs after last) (used : next.stalls + 1 ≡ now.stalls) where
          stays_out : (l : ℕ) → is_off (state_at (world_of now) l) ≡ true → is_off (state_at (world_of next) l) ≡ true
          stays_out = stays_off now.subs now.history (world_of now) run stall (world_of next) advances.step what stall_on

          gone : is_off (state_at (world_of next) line) ≡ true
          gone =
              subst (λ l. is_off (state_at (world_of next) l) ≡ true) here
              (off_after now.subs now.history (world_of now) run stall (world_of next) advances.step what stall_on)

          came : (l : ℕ) → is_off (state_at (world_of next) l) ≡ false → is_off (state_at (world_of now) l) ≡ false
          came = was_on now.subs now.history (world_of now) run stall (world_of next) advances.step what stall_on

          same_known : (l : ℕ) → known_before (entries ++ stall ∷ []) last l ≡ known_before entries after l
          same_known = as_many after last entries stall room put

          module _ (places : ℕ → ℕ) (may : MayBe (world_of next) (known_before (entries ++ stall ∷ []) last) places) where
            may_before : MayBe (world_of now) (known_before entries between) places
            may_before = grind (arith, same_known, stays_out)

            lowest_due : IsLowestDue (world_of now) places entries line
            lowest_due = record {
              due = record { in_service = on; given = given_here; short = let same = may.same line gone in omega (arith, parts.1, same, same_known line) };
              lowest = λ other lower due.
                  let is = short_is places (λ l. let later = may.more l in omega (arith, later, same_known l)) other due in
                  let least = lowest.least other is.0 is.1 in
                  omega (arith, lower, least);
            }

          step_old : Step old.subs (old.history ++ entries) (world_of now) stall (world_of next)
          step_old = grind arith

          pub goes_on : (more : List ℕ) → more ≡ with_lines lines stall.outputs → Entering next last number more prepared
          goes_on more is = record {
            entry = loop.entry;
            number_is = loop.number_is;
            event_is = loop.event_is;
            next = loop.next;
            step = loop.step;
            stalls = loop.stalls ++ stall ∷ [];
            forced = λ places may more end rest.
                subst (λ xs. Stalls old.subs old.history loop.next places (loop.entry ∷ []) xs end) (sym (append_assoc loop.stalls (stall ∷ []) more))
                (loop.forced places (may_before places may) (stall ∷ more) end
                (world_of next, what, subst (IsLowestDue (world_of now) places entries) (sym here) (lowest_due places may), step_old, rest));
            moments = All-push (is_at loop.entry) loop.stalls stall loop.moments (ap (λ e. e.moment) advances.event_is ∙ sym (ap (λ e. e.moment) loop.event_is));
            history = advances.history ∙ ap (λ xs. xs ++ stall ∷ []) loop.history ∙ append_assoc old.history entries (stall ∷ []);
            subs = advances.subs ∙ loop.subs;
            handed_over = advances.given ∙ loop.handed_over;
            waiting = advances.waiting ∙ ap (λ xs. xs ++ stall.records.items) loop.waiting ∙ append_assoc old.waiting (records_of entries) stall.records.items
                ∙ ap (λ xs. old.waiting ++ xs) (flat_map_more (λ (e : Entry A). e.records.items) [] entries stall);
            enough = loop.enough;
            used = let all = loop.used in omega (arith, all, used, length_push loop.stalls stall);
            count = put.count ∙ search.alike.count ∙ loop.count;
            given = subst (AreGiven (entries ++ stall ∷ [])) (sym is) given_next;
            out = more_out after last entries stall room put old.outboxes out_now;
            few_out = λ l. let most = loop.few_out l in omega (arith, most, few_more l, count_more l entries stall, length_push loop.stalls stall);
            had = λ l here_on. loop.had l (came l here_on);
            closed = closed_next now.subs now.history (world_of now) run stall (world_of next) advances.step what stall_on (three loop.entry) loop.closed;
            goes = goes_next;
            left = others.0;
            few_left = let one = others.1 in let most = loop.few_left in omega (arith, one, most, length_push loop.stalls stall);
            all_left = λ l among here_on.
                others.2 l (λ same. true≢false (sym gone ∙ ap (λ x. is_off (state_at (world_of next) x)) (sym same) ∙ here_on)) (loop.all_left l among (came l here_on));
          }

-- ---- the event itself

module _ {A : Type 0} (core mid : Exchange A) (event : Event A) (entry : Entry A) (outboxes : List (Putting (Outgoing A)))
    (can : CanEnter (with_outboxes core outboxes) event) (run : Run core.subs core.history (world_of core)) (advances : Advances core event mid entry) (small : AreFew entry.outputs) where
  pub room_first : HasRoomFor entry.outputs outboxes
  room_first line = elim (cases_lt 0 (length (to_line line entry.outputs))) [
    | inl some ↦
        let enough = can.kept.places line (served core.subs core.history (world_of core) run entry (world_of mid) advances.step line some) in
        omega (arith, enough, small line)
    | inr none ↦ omega (arith, none)
  ]

  abbrev first_three : List ℕ
  first_three = trio (world_of core) entry.event.line entry.outcome

  goes_first : (line : ℕ) → 0 < length (put_out_to line (entry ∷ [])) → Among first_three line
  goes_first line some =
      let all = count_more line [] entry in
      goes_to core.subs core.history (world_of core) run entry (world_of mid) advances.step line (omega (arith, some, all))

  given_first : AreGiven (entry ∷ []) (with_lines [] entry.outputs)
  given_first = given_more [] entry [] given_none

  pub few_first : length (with_lines [] entry.outputs) ≤ 3
  few_first = given_few (entry ∷ []) (with_lines [] entry.outputs) first_three given_first goes_first

  -- a line that is in service now had its places
  had_first : (line : ℕ) → is_off (state_at (world_of mid) line) ≡ false → PLACES_KEPT ≤ (outbox_at outboxes line).free
  had_first line on = elim (rises core.subs core.history (world_of core) run entry (world_of mid) advances.step line on) [
    | inl was ↦ can.kept.places line was
    | inr up ↦
        subst (λ l. PLACES_KEPT ≤ (outbox_at outboxes l).free) (sym (up.1 ∙ ap (λ e. e.line) advances.event_is)) (can.room (ap (λ e. is_up e.what) (sym advances.event_is) ∙ up.0))
  ]

  pub begins : (between : List (Putting (Outgoing A))) → IsPut entry.outputs outboxes between → (prepared : ℕ) → 3 ≤ prepared → mid.stalls ≡ prepared
      → (lines : List ℕ) → lines ≡ with_lines [] entry.outputs → Entering (with_outboxes core outboxes) event mid between entry.number lines prepared
  begins between put prepared enough same lines is = record {
    entry = entry;
    number_is = refl;
    event_is = advances.event_is;
    next = world_of mid;
    step = advances.step;
    stalls = [];
    forced = λ places may more last rest. rest;
    moments = All-nil (λ (stall : Entry A). stall.event.moment ≡ entry.event.moment);
    history = advances.history;
    subs = advances.subs;
    handed_over = advances.given;
    waiting = advances.waiting ∙ ap (λ xs. core.waiting ++ xs) (sym (append-nil entry.records.items));
    enough = enough;
    used = omega (arith, same);
    count = put.count;
    given = subst (AreGiven (entry ∷ [])) (sym is) given_first;
    out = more_out outboxes between [] entry room_first put outboxes (none_out outboxes);
    few_out = λ line. omega (arith, small line, count_more line [] entry);
    had = had_first;
    closed = closed_after core.subs core.history (world_of core) run entry (world_of mid) advances.step;
    goes = goes_first;
    left = first_three;
    few_left = omega arith;
    all_left = λ line there on. there;
  }
