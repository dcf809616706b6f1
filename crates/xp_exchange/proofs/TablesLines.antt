-- A line that brings tables into force: the lines that go are given up, and then the tables come.
use Rattle.std.proofs.Common.{◌≡◌, ℕ, ◌+◌, ◌<◌, ◌≤◌, List, [], ◌∷◌, ◌++◌, length, map, refl, sym, ap, ◌∙◌, subst, append-nil, append_assoc, length-append, All, Contains, Option, None, Some, Result, Ok, Err, inl, inr, arith}
use Rattle.std.proofs.lemmas.List.{length-map, map-append}
use Rattle.std.proofs.lemmas.List.Elements.{All-cons, All-head, All-nil, All-tail}
use Rattle.std.specs.List.{AllByRecursion}
use Rattle.std.specs.Io.KnownBytes.{Appends}
use Rattle.xp_subs.specs.Tables.{Tables, line_count}
use Rattle.xp_core.specs.Reload.{MustGo, reload_at}
use Rattle.xp_core.proofs.GivenUp.{AreStalls, follows_stalls, force_through_stalls}
use Rattle.xp_machine.specs.World.{World}
use Rattle.xp_step.specs.declared.entry.Entry.{Entry}
use Rattle.xp_step.specs.declared.event.Event.{Event}
use Rattle.xp_step.specs.declared.event.What.{What}
use Rattle.xp_step.specs.declared.event.What.TheVariants.{Stall, Reload as ReloadEvent}
use Rattle.xp_step.specs.Exchange.{Advances, Exchange, world_of}
use Rattle.xp_step.specs.InForce.{Brings as BringsOf, MayFollow, brought_by, in_force}
use Rattle.xp_step.specs.Run.{Run, RunFrom}
use Rattle.xp_script.specs.declared.command.Command.{Command}
use Rattle.xp_script.specs.declared.command.Command.TheVariants as commands
use Rattle.xp_script.specs.Command.{HasTables, reload_of, said}
use Rattle.xp_script.specs.NamedText.{NamedText}
use Rattle.xp_script.specs.Text.{entry_text}
use Rattle.xp_exchange.specs.declared.next_tables.NextTables.{NextTables}
use Rattle.xp_exchange.specs.declared.fault.ReplayFault.{ReplayFault}
use Rattle.xp_exchange.specs.declared.fault.ReplayFault.TheVariants.{Script, Journal, Memory, Read, Write, Lay, Reload}
use Rattle.xp_exchange.specs.FrameEvents.{Fits}
use Rattle.xp_exchange.specs.Play.{ActsOn, BeginsLine, Brings, BringsLine, ComesIntoForce, Lays, LineRead, MayCome, PlayState, Plays, PlaysLine, RefusesLine, event_of, force_in, stalls_at}
use Rattle.xp_exchange.specs.WholeScript.{FindsNoMemory, IsWritten}
use Rattle.xp_exchange.specs.steps.Acting.{Acted, ActsOnFirst, IsNext, RefusesReload}
use Rattle.xp_exchange.specs.steps.Playing.{Played}
use Rattle.xp_exchange.proofs.Acts.{acts_on_both, acts_on_nothing, acts_on_one}
use Rattle.xp_exchange.proofs.Force.{force_on}
use Rattle.xp_exchange.proofs.Played.{played_read}
use Rattle.xp_exchange.proofs.Tellings.{outputs_to_both}

stalls_are : (A : Type 0) (moment : ℕ) (lines : List ℕ) → AllByRecursion (λ (event : Event A). event.what ≡ Stall) (stalls_at {A = A} moment lines)
stalls_are A moment [] = tt
stalls_are A moment (line ∷ lines) = (refl, stalls_are A moment lines)

module _ {A : Type 0} where
  -- events that are stalls, and no others
  abbrev pub AreStallEvents : List (Event A) → Type 0
  AreStallEvents events = AllByRecursion (λ (event : Event A). event.what ≡ Stall) events

  first_are : (first later : List (Event A)) → AreStallEvents (first ++ later) → AreStallEvents first
  first_are [] later each = tt
  first_are (event ∷ first) later each = (each.0, first_are first later each.1)

  entries_are : (entries : List (Entry A)) (events : List (Event A)) → map (λ entry. entry.event) entries ≡ events → AreStallEvents events → AreStalls entries
  entries_are [] events are each = All-nil (λ (entry : Entry A). entry.event.what ≡ Stall)
  entries_are (entry ∷ entries) [] are each = absurd (cc)
  entries_are (entry ∷ entries) (event ∷ events) are each =
      let here : entry.event ≡ event = cc in
      let rest : map (λ (entry : Entry A). entry.event) entries ≡ events = cc in
      All-cons (λ (entry : Entry A). entry.event.what ≡ Stall) entry entries (ap (λ (event : Event A). event.what) here ∙ each.0) (entries_are entries events rest each.1)

  -- they bring nothing
  stalls_bring : (tables : Tables) (before : List (Entry A)) (world : World) (entries : List (Entry A)) (last : World) (laid : Tables) → RunFrom tables before world entries last → AreStalls entries
      → Brings (Some laid) entries
  stalls_bring tables before world [] last laid run stalls = tt
  stalls_bring tables before world (entry ∷ entries) last laid run stalls =
      let stall : entry.event.what ≡ Stall = All-head (λ (entry : Entry A). entry.event.what ≡ Stall) entry entries stalls in
      let none : entry.tables.items ≡ [] = subst (λ what. BringsOf (in_force tables before) world what entry.tables.items) stall run.1.brought in (
        none ∙ sym (ap (λ what. brought_by what laid) stall),
        stalls_bring tables (before ++ entry ∷ []) run.0 entries last laid run.2 (All-tail (λ (entry : Entry A). entry.event.what ≡ Stall) entry entries stalls),
      )

  brings_both : (laid : Tables) (entries more : List (Entry A)) → Brings (Some laid) entries → Brings (Some laid) more → Brings (Some laid) (entries ++ more)
  brings_both laid [] more each other = other
  brings_both laid (entry ∷ entries) more each other = (each.0, brings_both laid entries more each.1 other)

  -- the lines of these entries are those that are given up
  lines_are : (entries : List (Entry A)) (moment : ℕ) (lines : List ℕ) → map (λ entry. entry.event) entries ≡ stalls_at moment lines → map (λ entry. entry.event.line) entries ≡ lines
  lines_are [] moment [] are = refl
  lines_are [] moment (line ∷ lines) are = absurd (cc)
  lines_are (entry ∷ entries) moment [] are = absurd (cc)
  lines_are (entry ∷ entries) moment (line ∷ lines) are =
      let here : entry.event ≡ event_of line moment Stall = cc in
      let rest : map (λ (entry : Entry A). entry.event) entries ≡ stalls_at moment lines = cc in
      let line_is : entry.event.line ≡ line = ap (λ (event : Event A). event.line) here in
      ap (λ (first : ℕ). first ∷ map (λ (entry : Entry A). entry.event.line) entries) line_is ∙ ap (λ more. line ∷ more) (lines_are entries moment lines rest)

  -- once the lines that go are given up, the tables may come into force
  pub may_come : (old : Exchange A) (named : List NamedText) (number moment : ℕ) (laid : Tables) (going : List ℕ) (events : List (Event A)) → Run old.subs old.history (world_of old)
      → Lays old named number laid going → events ≡ stalls_at moment going → length old.history + (length going + 4) ≤ old.subs.journal
      → (after : Exchange A) → ActsOn old events after → MayCome after laid
  may_come old named number moment laid going events run lays are room after acts =
      let of_stalls : map (λ (entry : Entry A). entry.event) acts.entries ≡ stalls_at moment going = acts.of_events ∙ are in
      let stalls : AreStalls acts.entries = entries_are acts.entries (stalls_at moment going) of_stalls (stalls_are A moment going) in
      let lines : map (λ (entry : Entry A). entry.event.line) acts.entries ≡ going = lines_are acts.entries moment going of_stalls in
      let follows : MayFollow (force_in old) (world_of after) laid =
      follows_stalls old.subs old.history (world_of old) acts.entries (world_of after) (force_in old) laid run acts.run stalls lays.may
      (λ line must. subst (λ list. Contains list line) (sym lines) (lays.goes.all line must)) in
      let force : force_in after ≡ force_in old =
      ap (λ subs. in_force subs after.history) acts.subs ∙ ap (in_force old.subs) acts.history ∙ force_through_stalls old.subs old.history (world_of old) acts.entries (world_of after) acts.run stalls in
      let count : length acts.entries ≡ length going = sym (length-map acts.entries (λ (entry : Entry A). entry.event.line)) ∙ ap length lines in (
        subst (λ tables. MayFollow tables (world_of after) laid) (sym force) follows,
        omega (arith, room, count, ap length acts.history, length-append old.history acts.entries, ap (λ (subs : Tables). subs.journal) acts.subs),
      )

  -- each of these lines can be given up
  pub stalls_fit : (force tables : Tables) (world : World) (laid : Tables) (moment : ℕ) (lines : List ℕ) → line_count force ≡ line_count tables → All (MustGo force world laid) lines
      → All (Fits {A = A} tables) (stalls_at moment lines)
  stalls_fit force tables world laid moment [] same must = All-nil (Fits {A = A} tables)
  stalls_fit force tables world laid moment (line ∷ lines) same must =
      let known = (All-head (MustGo force world laid) line lines must).known in
      All-cons (Fits {A = A} tables) (event_of line moment Stall) (stalls_at moment lines) (omega (arith, known, same), (tt, refl))
      (stalls_fit force tables world laid moment lines same (All-tail (MustGo force world laid) line lines must))

  -- an exchange that has four places left brings them
  pub comes_into_force : (old new : Exchange A) (laid : Tables) (moment : ℕ) (entry : Entry A) → Advances old (reload_at moment) new entry → entry.tables.items ≡ laid ∷ []
      → entry.outputs ≡ [] → entry.records.items ≡ [] → length old.history + 4 ≤ old.subs.journal → ComesIntoForce old laid moment new
  comes_into_force old new laid moment entry advances brought quiet uncharged room = record {
    entry = entry;
    enters = record { event_is = advances.event_is; acts = acts_on_one old (reload_at moment) new entry advances room; history = advances.history };
    entries = refl;
    brought = brought;
    quiet = quiet;
    uncharged = uncharged;
  }

  -- a reload has no text
  comes_silently : (between new : Exchange A) (laid : Tables) (moment : ℕ) → ComesIntoForce between laid moment new → IsWritten between new []
  comes_silently between new laid moment comes =
      let silent : entry_text (force_in between) comes.entry ≡ [] = rw (comes.quiet, comes.uncharged) refl in
      record {
        entries = comes.entry ∷ [];
        history = comes.enters.history;
        text_is = sym (append-nil (entry_text (force_in between) comes.entry) ∙ silent);
      }

  -- the entries of a line: stalls, and then the reload
  reload_brings : (between new : Exchange A) (laid : Tables) (moment : ℕ) → (comes : ComesIntoForce between laid moment new) → Brings (Some laid) comes.enters.acts.entries
  reload_brings between new laid moment comes =
      let is : comes.entry.event.what ≡ ReloadEvent = ap (λ (event : Event A). event.what) comes.enters.event_is in
      subst (Brings (Some laid)) (sym comes.entries) (comes.brought ∙ sym (ap (λ what. brought_by what laid) is), tt)

  -- what was acted on is a front of the stalls
  pub front_brings : (old : PlayState A) (line : List ℕ) (events first later : List (Event A)) (next : NextTables) (now : Exchange A) → (brings : BringsLine old line events next) → events ≡ first ++ later
      → (acts : ActsOn old.exchange first now) → Brings (Some next.subs) acts.entries
  front_brings old line events first later next now brings in_order acts =
      stalls_bring old.exchange.subs old.exchange.history (world_of old.exchange) acts.entries (world_of now) next.subs acts.run
      (entries_are acts.entries first acts.of_events (first_are first later (subst AreStallEvents (sym brings.gives_up ∙ in_order) (stalls_are A old.moment brings.going))))

  -- the events of the line, in that order
  pub front_in_order : (old : PlayState A) (line : List ℕ) (events first later : List (Event A)) (next : NextTables) → (brings : BringsLine old line events next) → events ≡ first ++ later
      → stalls_at old.moment brings.going ++ reload_at old.moment ∷ [] ≡ first ++ (later ++ reload_at old.moment ∷ [])
  front_in_order old line events first later next brings in_order =
      ap (λ front. front ++ reload_at old.moment ∷ []) (sym brings.gives_up ∙ in_order) ∙ append_assoc first later (reload_at old.moment ∷ [])

  abbrev begins : (old : PlayState A) (line : List ℕ) (events : List (Event A)) (next : NextTables) (now : Exchange A) → BringsLine old line events next → ActsOnFirst old.exchange events now
      → BeginsLine old line now
  begins old line events next now brings acted = record {
    command = commands.Reload next.number;
    says = brings.says;
    events = stalls_at old.moment brings.going ++ reload_at old.moment ∷ [];
    after = old.unfinished;
    brought = Some next.subs;
    plays = (next.subs, brings.going, brings.lays, refl, refl, refl);
    first = acted.first;
    later = acted.later ++ reload_at old.moment ∷ [];
    in_order = front_in_order old line events acted.first acted.later next brings acted.in_order;
    acts = acted.acts;
    brings = front_brings old line events acted.first acted.later next now brings acted.in_order acted.acts;
  }

  -- it stops while lines are given up
  pub brings_broken : (fault : ReplayFault) (old new : PlayState A) (number : ℕ) (line : List ℕ) (events : List (Event A)) (next : NextTables) (text : List ℕ) → BringsLine old line events next
      → Acted old.exchange events (Err fault) new.exchange text → Played old number line (Err fault) new text
  brings_broken Journal old new number line events next text brings acted = (
    begins old line events next new.exchange brings acted.0,
    acted.1,
    (
      omega (arith, length-append acted.0.later (reload_at {A = A} old.moment ∷ [])),
      omega (arith, acted.3, length-append acted.0.later (reload_at {A = A} old.moment ∷ [])),
    ),
  )
  brings_broken Memory old new number line events next text brings acted = inr (
    begins old line events next new.exchange brings acted.0,
    elim acted.1 [
      | inl refused ↦ inl (omega (arith, length-append acted.0.later (reload_at {A = A} old.moment ∷ [])), refused.1)
      | inr missing ↦ inr missing
    ],
  )
  brings_broken Write old new number line events next text brings acted = (begins old line events next new.exchange brings acted.0, acted.1)
  brings_broken Read old new number line events next text brings acted = elim acted [ ]
  brings_broken (Script found) old new number line events next text brings acted = elim acted [ ]
  brings_broken (Lay found tables) old new number line events next text brings acted = elim acted [ ]
  brings_broken (Reload found tables why) old new number line events next text brings acted = elim acted [ ]

  -- all that the line does
  pub all_bring : (old : PlayState A) (line : List ℕ) (events : List (Event A)) (next : NextTables) (between new : Exchange A) → BringsLine old line events next → (acts : ActsOn old.exchange events between)
      → (comes : ComesIntoForce between next.subs old.moment new) → Brings (Some next.subs) (acts.entries ++ comes.enters.acts.entries)
  all_bring old line events next between new brings acts comes =
      brings_both next.subs acts.entries comes.enters.acts.entries (front_brings old line events events [] next between brings (sym (append-nil events)) acts)
      (reload_brings between new next.subs old.moment comes)

  -- the line is played to its end
  pub plays_tables : (old new : PlayState A) (line : List ℕ) (events : List (Event A)) (next : NextTables) (between : Exchange A) → BringsLine old line events next → ActsOn old.exchange events between
      → ComesIntoForce between next.subs old.moment new.exchange → new ≡ record old { exchange = new.exchange } → PlaysLine old line new
  plays_tables old new line events next between brings acts comes kept =
      record {
        command = commands.Reload next.number;
        says = brings.says;
        events = events ++ reload_at old.moment ∷ [];
        brought = Some next.subs;
        plays = (
          next.subs,
          brings.going,
          brings.lays,
          ap (λ front. front ++ reload_at old.moment ∷ []) brings.gives_up,
          ap (λ (state : PlayState A). state.unfinished) kept,
          refl,
        );
        moment = ap (λ (state : PlayState A). state.moment) kept;
        acts = acts_on_both old.exchange between new.exchange events (reload_at old.moment ∷ []) acts comes.enters.acts;
        brings = all_bring old line events next between new.exchange brings acts comes;
        named = ap (λ (state : PlayState A). state.named) kept;
      }

  pub brings_played : (old new : PlayState A) (number : ℕ) (line : List ℕ) (events : List (Event A)) (next : NextTables) (between : Exchange A) (text : List ℕ) → BringsLine old line events next
      → Acted old.exchange events (Ok tt) between text → ComesIntoForce between next.subs old.moment new.exchange → new ≡ record old { exchange = new.exchange }
      → Played old number line (Ok tt) new text
  brings_played old new number line events next between text brings acted comes kept = (
    plays_tables old new line events next between brings acted.0 comes kept,
    subst (IsWritten old.exchange new.exchange) (append-nil text)
        (outputs_to_both old.exchange between new.exchange text [] acted.0.subs acted.1 (comes_silently between new.exchange next.subs old.moment comes)),
  )

  -- the tables are refused
  pub not_reloaded : (fault : ReplayFault) (old : PlayState A) (number tables : ℕ) (line : List ℕ) → said {A = A} (force_in old.exchange) old.named line ≡ Some (commands.Reload tables)
      → RefusesReload old.exchange old.named tables number fault → RefusesLine old number line fault
  not_reloaded Journal old number tables line says refused = (
    record {
      command = commands.Reload tables;
      says = says;
      events = stalls_at old.moment refused.going ++ reload_at old.moment ∷ [];
      after = old.unfinished;
      brought = Some refused.laid;
      plays = (refused.laid, refused.going, refused.lays, refl, refl, refl);
      first = [];
      later = stalls_at old.moment refused.going ++ reload_at old.moment ∷ [];
      in_order = refl;
      acts = acts_on_nothing old.exchange;
      brings = tt;
    },
    (
      omega (arith, length-append (stalls_at {A = A} old.moment refused.going) (reload_at {A = A} old.moment ∷ [])),
      omega (arith, refused.full, length-append (stalls_at {A = A} old.moment refused.going) (reload_at {A = A} old.moment ∷ []), length-map refused.going (λ line. event_of {A = A} line old.moment Stall)),
    ),
  )
  not_reloaded Memory old number tables line says refused = tt
  not_reloaded (Lay found which) old number tables line says refused =
      let bring : ℕ → Option (Command A) = λ one. Some (commands.Reload one) in
      (refused.0, (says ∙ ap bring (sym refused.1)), refused.2)
  not_reloaded (Reload found which why) old number tables line says refused =
      let bring : ℕ → Option (Command A) = λ one. Some (commands.Reload one) in
      (refused.0, (says ∙ ap bring (sym refused.1)), refused.2)
  not_reloaded (Script found) old number tables line says refused = elim refused [ ]
  not_reloaded Read old number tables line says refused = elim refused [ ]
  not_reloaded Write old number tables line says refused = elim refused [ ]

  -- the line brings the tables that were read
  pub brings_line : (old : PlayState A) (line : List ℕ) (tables : ℕ) (events : List (Event A)) (next : NextTables) → said {A = A} (force_in old.exchange) old.named line ≡ Some (commands.Reload tables)
      → tables < length old.named → IsNext old.exchange old.named tables old.moment events next → BringsLine old line events next
  brings_line old line tables events next says known is =
      let bring : ℕ → Option (Command A) = λ one. Some (commands.Reload one) in
      record {
        says = says ∙ ap bring (sym is.number_is);
        known = subst (λ number. number < length old.named) (sym is.number_is) known;
        going = is.going;
        lays = subst (λ number. Lays old.exchange old.named number next.subs is.going) (sym is.number_is) is.lays;
        gives_up = is.gives_up;
        comes = is.comes;
      }

  pub is_reload : (command : Command A) (number : ℕ) → reload_of command ≡ Some number → command ≡ commands.Reload number
  is_reload (commands.Reload other) number is = let same : other ≡ number = cc in ap commands.Reload same
  is_reload commands.Nothing number is = absurd (cc)
  is_reload (commands.Up line) number is = absurd (cc)
  is_reload (commands.Down line) number is = absurd (cc)
  is_reload (commands.Expire line) number is = absurd (cc)
  is_reload (commands.In line octets) number is = absurd (cc)
  is_reload (commands.At moment) number is = absurd (cc)

  -- the tables that a command brings are of those that there are
  pub known_tables : (count : ℕ) (command : Command A) (number : ℕ) → HasTables count command → reload_of command ≡ Some number → number < count
  known_tables count command number has is = subst (HasTables count) (is_reload command number is) has

  -- what a command that brings no tables does, whatever texts there are
  pub plays_alike : (exchange : Exchange A) (unfinished : List (List ℕ)) (moment : ℕ) (named : List NamedText) (command : Command A) (events : List _) (after : List (List ℕ)) → reload_of command ≡ None
      → Plays (record { exchange = exchange; unfinished = unfinished; moment = moment; named = [] }) command events after None
      → Plays (record { exchange = exchange; unfinished = unfinished; moment = moment; named = named }) command events after None
  plays_alike exchange unfinished moment named commands.Nothing events after none plays = plays
  plays_alike exchange unfinished moment named (commands.Up line) events after none plays = plays
  plays_alike exchange unfinished moment named (commands.Down line) events after none plays = plays
  plays_alike exchange unfinished moment named (commands.Expire line) events after none plays = plays
  plays_alike exchange unfinished moment named (commands.In line octets) events after none plays = plays
  plays_alike exchange unfinished moment named (commands.At next) events after none plays = plays
  plays_alike exchange unfinished moment named (commands.Reload number) events after none plays = absurd (cc)

  -- the tables of a text may come into force behind these events
  pub is_next : (exchange : Exchange A) (named : List NamedText) (number moment : ℕ) (laid : Tables) (going : List ℕ) (events : List (Event A)) → Run exchange.subs exchange.history (world_of exchange)
      → Lays exchange named number laid going → events ≡ stalls_at moment going → length exchange.history + (length going + 4) ≤ exchange.subs.journal
      → IsNext exchange named number moment events (record { number = number; subs = laid })
  is_next exchange named number moment laid going events run lays are room = record {
    number_is = refl;
    going = going;
    lays = lays;
    gives_up = are;
    comes = may_come exchange named number moment laid going events run lays are room;
  }

  -- the exchange can act on the events of a line that was read
  pub read_fits : (next : Option NextTables) (old read : PlayState A) (line : List ℕ) (events : List (Event A)) → LineRead old line events read next → All (Fits old.exchange.subs) events
  read_fits None old read line events reads = reads.1
  read_fits (Some next) old read line events reads = reads.2

  -- it stops at one of them
  pub read_broken : (next : Option NextTables) (fault : ReplayFault) (old read new : PlayState A) (number : ℕ) (line : List ℕ) (events : List (Event A)) (text : List ℕ) → LineRead old line events read next
      → new ≡ record read { exchange = new.exchange } → Acted read.exchange events (Err fault) new.exchange text → Played old number line (Err fault) new text
  read_broken None fault old read new number line events text reads kept acted =
      played_read (Err fault) old read new number line events text reads.0 (ap (λ (state : PlayState A). state.unfinished) kept) (ap (λ (state : PlayState A). state.moment) kept)
      (ap (λ (state : PlayState A). state.named) kept) acted
  read_broken (Some next) fault old read new number line events text reads kept acted =
      brings_broken fault old new number line events next text reads.0 (subst (λ (state : PlayState A). Acted state.exchange events (Err fault) new.exchange text) reads.1 acted)

  -- all are acted on, and the line brings no tables
  pub read_played : (old read new : PlayState A) (number : ℕ) (line : List ℕ) (events : List (Event A)) (text : List ℕ) → LineRead old line events read None
      → new ≡ record read { exchange = new.exchange } → Acted read.exchange events (Ok tt) new.exchange text → Played old number line (Ok tt) new text
  read_played old read new number line events text reads kept acted =
      played_read (Ok tt) old read new number line events text reads.0 (ap (λ (state : PlayState A). state.unfinished) kept) (ap (λ (state : PlayState A). state.moment) kept)
      (ap (λ (state : PlayState A). state.named) kept) acted

  -- all are acted on, and then the tables come into force
  pub read_brought : (old read new : PlayState A) (number : ℕ) (line : List ℕ) (events : List (Event A)) (next : NextTables) (between : Exchange A) (text : List ℕ) → LineRead old line events read (Some next)
      → Acted read.exchange events (Ok tt) between text → ComesIntoForce between next.subs read.moment new.exchange → new ≡ record read { exchange = new.exchange }
      → Played old number line (Ok tt) new text
  read_brought old read new number line events next between text reads acted comes kept =
      brings_played old new number line events next between text reads.0
      (subst (λ (state : PlayState A). Acted state.exchange events (Ok tt) between text) reads.1 acted)
      (subst (λ (state : PlayState A). ComesIntoForce between next.subs state.moment new.exchange) reads.1 comes)
      (kept ∙ ap (λ (state : PlayState A). record state { exchange = new.exchange }) reads.1)
