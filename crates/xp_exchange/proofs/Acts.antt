-- Acting on events, one list after the other.
use Rattle.std.proofs.Common.{◌≡◌, ◌⊎◌, inl, inr, ◌+◌, ◌≤◌, List, [], ◌∷◌, ◌++◌, length, map, refl, sym, ap, ◌∙◌, append_assoc, append-nil, length-append, subst, arith}
use Rattle.std.proofs.lemmas.List.{map-append}
use Rattle.xp_subs.specs.Tables.{Tables}
use Rattle.xp_step.specs.declared.entry.Entry.{Entry}
use Rattle.xp_step.specs.declared.event.Event.{Event}
use Rattle.xp_step.specs.Exchange.{Exchange, Advances, world_of}
use Rattle.xp_step.specs.Run.{RunFrom}
use Rattle.xp_machine.specs.World.{World}
use Rattle.xp_script.specs.Text.{entry_text}
use Rattle.xp_exchange.specs.steps.Acting.{ActsOnFirst}
use Rattle.xp_exchange.specs.Play.{ActsOn, force_in}
use Rattle.xp_exchange.specs.WholeScript.{IsWritten}

module _ {A : Type 0} where
  pub run_both : (tables : Tables) (before : List (Entry A)) (world : World) (entries : List (Entry A)) (between : World) (more : List (Entry A)) (last : World)
      → RunFrom tables before world entries between → RunFrom tables (before ++ entries) between more last → RunFrom tables before world (entries ++ more) last
  run_both tables before world [] between more last same run =
      let P : World → Type 0 = λ from. RunFrom tables before from more last in
      let Q : List (Entry A) → Type 0 = λ front. RunFrom tables front between more last in
      subst P same (subst Q (append-nil before) run)
  run_both tables before world (first ∷ entries) between more last run then =
      let Q : List (Entry A) → Type 0 = λ front. RunFrom tables front between more last in (
        run.0,
        run.1,
        run_both tables (before ++ first ∷ []) run.0 entries between more last run.2
            (subst Q (sym (append_assoc before (first ∷ []) entries)) then),
      )

  abbrev pub acts_on_nothing : (old : Exchange A) → ActsOn old [] old
  acts_on_nothing old = record { entries = []; run = refl; of_events = refl; history = sym (append-nil old.history); subs = refl; room = inl refl }

  -- room for the last is room for all
  pub room_both : (old between new : Exchange A) (events more : List (Event A)) (first : ActsOn old events between) (second : ActsOn between more new)
      → (first.entries ++ second.entries ≡ []) ⊎ (length new.history + 3 ≤ old.subs.journal)
  room_both old between new events more first second = elim second.room [
    | inr enough ↦ inr (subst (λ tables. length new.history + 3 ≤ tables.journal) first.subs enough)
    | inl none ↦ elim first.room [
      | inl nothing ↦ inl (ap (λ front. front ++ second.entries) nothing ∙ none)
      | inr enough ↦ inr (omega (arith, enough, ap length second.history, length-append between.history second.entries, ap length none))
    ]
  ]

  abbrev pub acts_on_both : (old between new : Exchange A) (events more : List (Event A)) → ActsOn old events between → ActsOn between more new → ActsOn old (events ++ more) new
  acts_on_both old between new events more first second =
      let P : Tables → Type 0 = λ tables. RunFrom tables between.history (world_of between) second.entries (world_of new) in
      let Q : List (Entry A) → Type 0 = λ front. RunFrom old.subs front (world_of between) second.entries (world_of new) in
      record {
        entries = first.entries ++ second.entries;
        run = run_both old.subs old.history (world_of old) first.entries (world_of between) second.entries (world_of new) first.run
            (subst Q first.history (subst P first.subs second.run));
        of_events = map-append (λ entry. entry.event) first.entries second.entries
            ∙ ap (λ front. front ++ map (λ entry. entry.event) second.entries) first.of_events
            ∙ ap (λ rest. events ++ rest) second.of_events;
        history = second.history ∙ ap (λ front. front ++ second.entries) first.history ∙ append_assoc old.history first.entries second.entries;
        subs = second.subs ∙ first.subs;
        room = room_both old between new events more first second;
      }

  -- one step
  abbrev pub acts_on_one : (old : Exchange A) (event : Event A) (new : Exchange A) (entry : Entry A) → Advances old event new entry → length old.history + 4 ≤ old.subs.journal → ActsOn old (event ∷ []) new
  acts_on_one old event new entry advances room = record {
    entries = entry ∷ [];
    run = (world_of new, advances.step, refl);
    of_events = ap (λ first. first ∷ []) advances.event_is;
    history = advances.history;
    subs = advances.subs;
    room = inr (omega (arith, room, ap length advances.history, length-append old.history (entry ∷ [])));
  }

  -- what is told of it is the text of its entry
  pub told_one : (old : Exchange A) (event : Event A) (new : Exchange A) (entry : Entry A) (advances : Advances old event new entry) → IsWritten old new (entry_text (force_in old) entry)
  told_one old event new entry advances = record {
    entries = entry ∷ [];
    history = advances.history;
    text_is = sym (append-nil (entry_text (force_in old) entry));
  }

  pub first_of_all : (old now : Exchange A) (events : List (Event A)) → ActsOn old events now → ActsOnFirst old events now
  first_of_all old now events acts = record { first = events; later = []; in_order = sym (append-nil events); acts = acts }

  abbrev pub first_of_none : (old : Exchange A) (events : List (Event A)) → ActsOnFirst old events old
  first_of_none old events = record { first = []; later = events; in_order = refl; acts = acts_on_nothing old }

  -- those before, and then the first of those that follow
  abbrev pub first_after : (old between now : Exchange A) (done next events : List (Event A)) (rest : List (Event A)) → events ≡ done ++ (next ++ rest) → ActsOn old done between → ActsOnFirst between next now → ActsOnFirst old events now
  first_after old between now done next events rest split before then = record {
    first = done ++ then.first;
    later = then.later ++ rest;
    in_order = split ∙ ap (λ some. done ++ (some ++ rest)) then.in_order
        ∙ ap (λ some. done ++ some) (append_assoc then.first then.later rest)
        ∙ sym (append_assoc done then.first (then.later ++ rest));
    acts = acts_on_both old between now done then.first before then.acts;
  }
