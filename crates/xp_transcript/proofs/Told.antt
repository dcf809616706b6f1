-- What is told of events, one list after the other.
use Rattle.std.proofs.Common.{◌≡◌, ℕ, ◌+◌, List, [], ◌∷◌, ◌++◌, length, take, refl, sym, ap, ◌∙◌, append_assoc, append-nil, subst, All, Option, Result, Ok, Err}
use Rattle.std.proofs.lemmas.List.{map-append}
use Rattle.std.proofs.lemmas.List.Elements.{All-head, All-tail}
use Rattle.std.proofs.Math.Seq.{take-append-add}
use Rattle.std.specs.Io.KnownBytes.{Appends}
use Rattle.xp_subs.specs.Tables.{Tables}
use Rattle.xp_step.specs.declared.entry.Entry.{Entry}
use Rattle.xp_step.specs.declared.event.Event.{Event}
use Rattle.xp_step.specs.Exchange.{Exchange}
use Rattle.xp_exchange.specs.declared.fault.ReplayFault.{ReplayFault}
use Rattle.xp_exchange.specs.declared.fault.ReplayFault.TheVariants.{Script, Journal, Memory, Read, Write, Lay, Reload}
use Rattle.xp_exchange.specs.FrameEvents.{Fits}
use Rattle.xp_exchange.specs.Play.{ActsOn, ComesIntoForce, Enters, PlayState, RefusesEvent, force_in}
use Rattle.xp_exchange.specs.declared.next_tables.NextTables.{NextTables}
use Rattle.xp_exchange.proofs.Force.{force_on}
use Rattle.xp_step.specs.InForce.{in_force, last_of}
use Rattle.xp_step.proofs.InForce.{in_force_still}
use Rattle.xp_exchange.specs.Acting.{Puts}
use Rattle.xp_exchange.proofs.Acts.{acts_on_both, acts_on_nothing}
use Rattle.xp_writing.proofs.Bytes.{appends_both, appends_nothing}
use Rattle.xp_transcript.specs.declared.teller.Teller.{Teller}
use Rattle.xp_transcript.specs.Telling.{IsTold, IsToldInPart, TellState}
use Rattle.xp_transcript.specs.Transcript.{ToldEntry, entries_of, entry_told, plain_told, reload_told, teller_after, teller_behind, teller_by, teller_on, teller_renewed, told_by, transcript}
use Rattle.xp_transcript.specs.steps.Telling.{TellsEach, TellsEvents, TellsNext}

module _ {A : Type 0} where
  transcript-append : (force : Tables) (teller : Teller) (xs ys : List (ToldEntry A))
      → transcript force teller (xs ++ ys) ≡ transcript force teller xs ++ transcript (in_force force (entries_of xs)) (teller_behind force teller xs) ys
  transcript-append force teller [] ys = refl
  transcript-append force teller (x ∷ xs) ys =
      let next : Tables = last_of force x.entry.tables.items in
      let then : Teller = teller_after force teller x.entry in
      ap (λ rest. entry_told force teller x.name x.entry ++ rest) (transcript-append next then xs ys)
      ∙ sym (append_assoc (entry_told force teller x.name x.entry) (transcript next then xs) (transcript (in_force next (entries_of xs)) (teller_behind next then xs) ys))

  behind-append : (force : Tables) (teller : Teller) (xs ys : List (ToldEntry A)) → teller_behind force teller (xs ++ ys) ≡ teller_behind (in_force force (entries_of xs)) (teller_behind force teller xs) ys
  behind-append force teller [] ys = refl
  behind-append force teller (x ∷ xs) ys = behind-append (last_of force x.entry.tables.items) (teller_after force teller x.entry) xs ys

  pub told_nothing : (old : Exchange A) (teller : Teller) → IsTold old teller old teller []
  told_nothing old teller = record { told = []; history = sym (append-nil old.history); text_is = refl; behind_is = refl }

  pub told_one : (old new : Exchange A) (teller behind : Teller) (name : List ℕ) (entry : Entry A) (text : List ℕ) → new.history ≡ old.history ++ entry ∷ []
      → text ≡ entry_told (force_in old) teller name entry → behind ≡ teller_after (force_in old) teller entry → IsTold old teller new behind text
  told_one old new teller behind name entry text history is after = record {
    told = record { entry = entry; name = name } ∷ [];
    history = history;
    text_is = is ∙ sym (append-nil (entry_told (force_in old) teller name entry));
    behind_is = after;
  }

  pub told_both : (old between new : Exchange A) (first second third : Teller) (one other : List ℕ) → between.subs ≡ old.subs
      → IsTold old first between second one → IsTold between second new third other → IsTold old first new third (one ++ other)
  told_both old between new first second third one other same a b =
      let force : Tables = in_force (force_in old) (entries_of a.told) in
      let there : force_in between ≡ force = force_on old between (entries_of a.told) same a.history in
      let later : other ≡ transcript force (teller_behind (force_in old) first a.told) b.told =
      b.text_is ∙ ap (λ tables. transcript tables second b.told) there ∙ ap (λ teller. transcript force teller b.told) a.behind_is in
      record {
        told = a.told ++ b.told;
        history = b.history ∙ ap (λ front. front ++ entries_of b.told) a.history ∙ append_assoc old.history (entries_of a.told) (entries_of b.told)
            ∙ ap (λ rest. old.history ++ rest) (sym (map-append (λ (one : ToldEntry A). one.entry) a.told b.told));
        text_is = ap (λ front. front ++ other) a.text_is ∙ ap (λ rest. transcript (force_in old) first a.told ++ rest) later
            ∙ sym (transcript-append (force_in old) first a.told b.told);
        behind_is = b.behind_is ∙ ap (λ tables. teller_behind tables second b.told) there ∙ ap (λ teller. teller_behind force teller b.told) a.behind_is
            ∙ sym (behind-append (force_in old) first a.told b.told);
      }

  -- nothing of the events is told
  abbrev pub told_in_no_part : (old : Exchange A) (teller : Teller) (events : List (Event A)) → IsToldInPart old teller events []
  told_in_no_part old teller events = record {
    first = [];
    later = events;
    in_order = refl;
    after = old;
    acts = acts_on_nothing old;
    behind = teller;
    whole = [];
    told = told_nothing old teller;
    count = 0;
    front = refl;
  }

  -- a front of what is told of all events
  pub told_front : (old new : Exchange A) (teller behind : Teller) (events : List (Event A)) (whole text : List ℕ) (count : ℕ) → ActsOn old events new
      → IsTold old teller new behind whole → text ≡ take count whole → IsToldInPart old teller events text
  told_front old new teller behind events whole text count acts told is = record {
    first = events;
    later = [];
    in_order = sym (append-nil events);
    after = new;
    acts = acts;
    behind = behind;
    whole = whole;
    told = told;
    count = count;
    front = is;
  }

  -- some events are told whole, and then others in part
  pub told_in_part_after : (old between : Exchange A) (first second : Teller) (done next events rest : List (Event A)) (one other : List ℕ) → events ≡ done ++ (next ++ rest)
      → ActsOn old done between → IsTold old first between second one → IsToldInPart between second next other → IsToldInPart old first events (one ++ other)
  told_in_part_after old between first second done next events rest one other split acts told part = record {
    first = done ++ part.first;
    later = part.later ++ rest;
    in_order = split ∙ ap (λ some. done ++ (some ++ rest)) part.in_order
        ∙ ap (λ some. done ++ some) (append_assoc part.first part.later rest)
        ∙ sym (append_assoc done part.first (part.later ++ rest));
    after = part.after;
    acts = acts_on_both old between part.after done part.first acts part.acts;
    behind = part.behind;
    whole = one ++ part.whole;
    told = told_both old between part.after first second part.behind one part.whole acts.subs told part.told;
    count = length one + part.count;
    front = ap (λ rest. one ++ rest) part.front ∙ sym (take-append-add one part.whole part.count);
  }

  pub record SoFar (first : TellState A) (events left : List (Event A)) (now : TellState A) (old new : Option (List ℕ)) : Type 0 where
    pub done : List (Event A)
    pub split : events ≡ done ++ left
    pub text : List ℕ
    pub puts : Appends old new text
    pub tells : TellsEach first done now text
    pub fit : All (Fits first.play.exchange.subs) left

  pub so_far_none : (first : TellState A) (events : List (Event A)) (known : Option (List ℕ)) → All (Fits first.play.exchange.subs) events → SoFar first events events first known known
  so_far_none first events known fit = record {
    done = [];
    split = refl;
    text = [];
    puts = appends_nothing known;
    tells = record { acts = acts_on_nothing first.play.exchange; told = told_nothing first.play.exchange first.teller; kept = refl };
    fit = fit;
  }

  -- the next event fits
  pub next_fits : (first : TellState A) (events left rest : List (Event A)) (event : Event A) (now : TellState A) (old new : Option (List ℕ)) → SoFar first events left now old new → left ≡ event ∷ rest
      → Fits now.play.exchange.subs event
  next_fits first events left rest event now old new so_far next =
      subst (λ tables. Fits tables event) (sym so_far.tells.acts.subs)
      (All-head (Fits first.play.exchange.subs) event rest (subst (All (Fits first.play.exchange.subs)) next so_far.fit))

  each_both : (first now next : TellState A) (done : List (Event A)) (event : Event A) (one other : List ℕ) → TellsEach first done now one → TellsEach now (event ∷ []) next other → TellsEach first (done ++ event ∷ []) next (one ++ other)
  each_both first now next done event one other a b = record {
    acts = acts_on_both first.play.exchange now.play.exchange next.play.exchange done (event ∷ []) a.acts b.acts;
    told = told_both first.play.exchange now.play.exchange next.play.exchange first.teller now.teller next.teller one other a.acts.subs a.told b.told;
    kept = b.kept ∙ ap (λ (play : PlayState A). record play { exchange = next.play.exchange }) a.kept;
  }

  pub so_far_more : (first : TellState A) (events left rest : List (Event A)) (event : Event A) (now next : TellState A) (old between new : Option (List ℕ))
      → SoFar first events left now old between → left ≡ event ∷ rest
      → (text : List ℕ) × Appends between new text × TellsEvents now (event ∷ []) (Ok tt) next text
      → SoFar first events rest next old new
  so_far_more first events left rest event now next old between new so_far cut told = record {
    done = so_far.done ++ event ∷ [];
    split = so_far.split ∙ ap (λ some. so_far.done ++ some) cut ∙ sym (append_assoc so_far.done (event ∷ []) rest);
    text = so_far.text ++ told.0;
    puts = appends_both old between new so_far.text told.0 so_far.puts told.1;
    tells = each_both first now next so_far.done event so_far.text told.0 so_far.tells told.2;
    fit = All-tail (Fits first.play.exchange.subs) event rest (subst (All (Fits first.play.exchange.subs)) cut so_far.fit);
  }

  pub so_far_all : (first : TellState A) (events left : List (Event A)) (now : TellState A) (old new : Option (List ℕ)) → SoFar first events left now old new → left ≡ []
      → (text : List ℕ) × Appends old new text × TellsEvents first events (Ok tt) now text
  so_far_all first events left now old new so_far none =
      let all : so_far.done ≡ events = sym (so_far.split ∙ ap (λ some. so_far.done ++ some) none ∙ append-nil so_far.done) in
      (so_far.text, so_far.puts, subst (λ done. TellsEach first done now so_far.text) all so_far.tells)

  pub so_far_broken : (first : TellState A) (events left rest : List (Event A)) (event : Event A) (now next : TellState A) (old between new : Option (List ℕ)) (fault : ReplayFault)
      → SoFar first events left now old between → left ≡ event ∷ rest
      → (text : List ℕ) × Appends between new text × TellsEvents now (event ∷ []) (Err fault) next text
      → (text : List ℕ) × Appends old new text × TellsEvents first events (Err fault) next text
  so_far_broken first events left rest event now next old between new fault so_far cut told =
      (so_far.text ++ told.0, appends_both old between new so_far.text told.0 so_far.puts told.1, go fault told.2)
    where
      whole : events ≡ so_far.done ++ ((event ∷ []) ++ rest)
      whole = so_far.split ∙ ap (λ some. so_far.done ++ some) cut

      after : IsToldInPart now.play.exchange now.teller (event ∷ []) told.0 → IsToldInPart first.play.exchange first.teller events (so_far.text ++ told.0)
      after part = told_in_part_after first.play.exchange now.play.exchange first.teller now.teller so_far.done (event ∷ []) events rest so_far.text told.0 whole so_far.tells.acts so_far.tells.told part

      go : (fault : ReplayFault) → TellsEvents now (event ∷ []) (Err fault) next told.0 → TellsEvents first events (Err fault) next (so_far.text ++ told.0)
      go Journal part = after part
      go Memory part = after part
      go Write part = after part
      go (Script number) part = elim part [ ]
      go (Lay number tables) part = elim part [ ]
      go (Reload number tables why) part = elim part [ ]
      go Read part = elim part [ ]

  -- the event is refused
  pub refused_event : (fault : ReplayFault) (old new : TellState A) (event : Event A) (known : Option (List ℕ)) → RefusesEvent old.play.exchange fault
      → (text : List ℕ) × Appends known known text × TellsEvents old (event ∷ []) (Err fault) new text
  refused_event fault old new event known refused = ([], appends_nothing known, go fault refused)
    where
      go : (fault : ReplayFault) → RefusesEvent old.play.exchange fault → TellsEvents old (event ∷ []) (Err fault) new []
      go Journal refused = told_in_no_part old.play.exchange old.teller (event ∷ [])
      go Memory refused = told_in_no_part old.play.exchange old.teller (event ∷ [])
      go Write refused = elim refused [ ]
      go Read refused = elim refused [ ]
      go (Script number) refused = elim refused [ ]
      go (Lay number tables) refused = elim refused [ ]
      go (Reload number tables why) refused = elim refused [ ]

  -- its entry is not told
  pub untold_event : (old new : TellState A) (event : Event A) (known : Option (List ℕ))
      → (text : List ℕ) × Appends known known text × TellsEvents old (event ∷ []) (Err Memory) new text
  untold_event old new event known = ([], appends_nothing known, told_in_no_part old.play.exchange old.teller (event ∷ []))

  -- its entry is told, or a front of that
  pub told_event : (result : Result (Unit {0}) ReplayFault) (old new : TellState A) (event : Event A) (entry : Entry A) (before after : Option (List ℕ)) (text : List ℕ)
      → Enters old.play.exchange event new.play.exchange entry → text ≡ entry_told (force_in old.play.exchange) old.teller [] entry
      → new.teller ≡ teller_after (force_in old.play.exchange) old.teller entry → new.play ≡ record old.play { exchange = new.play.exchange }
      → Puts before after text result
      → (own : List ℕ) × Appends before after own × TellsEvents old (event ∷ []) result new own
  told_event (Ok done) old new event entry before after text enters is behind kept puts = (
    text,
    puts,
    record { acts = enters.acts; told = told_one old.play.exchange new.play.exchange old.teller new.teller [] entry text enters.history is behind; kept = kept },
  )
  told_event (Err fault) old new event entry before after text enters is behind kept puts = (
    take puts.1 text,
    puts.2,
    subst (λ why. TellsEvents old (event ∷ []) (Err why) new (take puts.1 text)) (sym puts.0)
        (told_front old.play.exchange new.play.exchange old.teller new.teller (event ∷ []) text (take puts.1 text) puts.1 enters.acts
        (told_one old.play.exchange new.play.exchange old.teller new.teller [] entry text enters.history is behind) refl),
  )

  -- an entry that brings no tables leaves those in force
  pub force_entered : (old new : Exchange A) (event : Event A) (entry : Entry A) → Enters old event new entry → entry.tables.items ≡ [] → force_in new ≡ force_in old
  force_entered old new event entry enters none =
      ap (λ subs. in_force subs new.history) enters.acts.subs ∙ ap (in_force old.subs) enters.history ∙ in_force_still old.subs old.history entry none

  -- and it is told as any other
  pub plain_is : (force : Tables) (teller : Teller) (entry : Entry A) → entry.tables.items ≡ [] → plain_told force teller entry ≡ entry_told force teller [] entry
  plain_is force teller entry none = sym (ap (told_by force teller [] entry) none)

  pub teller_is : (force : Tables) (teller : Teller) (entry : Entry A) → entry.tables.items ≡ [] → teller_on force teller entry ≡ teller_after force teller entry
  teller_is force teller entry none = sym (ap (teller_by force teller entry) none)

  -- what is told of tables that come into force is told of their entry
  pub reload_is : (old new : Exchange A) (laid : Tables) (moment : ℕ) (name : List ℕ) (force : Tables) (teller : Teller) → (comes : ComesIntoForce old laid moment new)
      → reload_told moment name force laid teller ≡ entry_told force teller name comes.entry
  reload_is old new laid moment name force teller comes =
      sym (ap (told_by force teller name comes.entry) comes.brought ∙ ap (λ (event : Event A). reload_told event.moment name force laid teller) comes.enters.event_is)

  pub renewed_is : (old new : Exchange A) (laid : Tables) (moment : ℕ) (force : Tables) (teller : Teller) → (comes : ComesIntoForce old laid moment new)
      → teller_renewed force laid teller ≡ teller_after force teller comes.entry
  renewed_is old new laid moment force teller comes = sym (ap (teller_by force teller comes.entry) comes.brought)

  -- tables are in force, and that is written, or a front of it
  pub told_next : (result : Result (Unit {0}) ReplayFault) (old new : TellState A) (next : NextTables) (name : List ℕ) (before after : Option (List ℕ)) (text : List ℕ)
      → (comes : ComesIntoForce old.play.exchange next.subs old.play.moment new.play.exchange) → text ≡ entry_told (force_in old.play.exchange) old.teller name comes.entry
      → new.play ≡ record old.play { exchange = new.play.exchange } → new.teller ≡ teller_after (force_in old.play.exchange) old.teller comes.entry
      → Puts before after text result
      → (own : List ℕ) × Appends before after own × TellsNext old next name result new own
  told_next (Ok done) old new next name before after text comes is kept behind puts = (text, puts, (comes, is, kept, behind))
  told_next (Err fault) old new next name before after text comes is kept behind puts = (
    take puts.1 text,
    puts.2,
    subst (λ why. TellsNext old next name (Err why) new (take puts.1 text)) (sym puts.0) (comes, puts.1, ap (take puts.1) is),
  )
