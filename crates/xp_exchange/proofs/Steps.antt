-- One step, and what is told of it.
use Rattle.std.proofs.Common.{◌≡◌, ℕ, ◌+◌, ◌<◌, ◌≤◌, List, [], ◌∷◌, length, take, refl, sym, ap, ◌∙◌, subst, Option, Result, Ok, Err, inl, inr, arith}
use Rattle.std.specs.Io.KnownBytes.{Appends}
use Rattle.xp_charge.specs.declared.record.Record.{Record}
use Rattle.xp_subs.specs.Tables.{Tables}
use Rattle.xp_step.specs.declared.entry.Entry.{Entry}
use Rattle.xp_step.specs.declared.event.Event.{Event}
use Rattle.xp_step.specs.Exchange.{Exchange, Advances}
use Rattle.xp_script.specs.Text.{entry_text}
use Rattle.xp_exchange.specs.declared.fault.ReplayFault.{ReplayFault}
use Rattle.xp_exchange.specs.declared.fault.ReplayFault.TheVariants.{Script, Journal, Memory, Read, Write, Lay, Reload}
use Rattle.xp_core.specs.declared.fault.StepFault.{StepFault}
use Rattle.xp_core.specs.declared.fault.StepFault.TheVariants as steps
use Rattle.xp_exchange.specs.Play.{ActsOn, Enters, RefusesEvent, force_in}
use Rattle.xp_exchange.specs.WholeScript.{IsWritten}
use Rattle.xp_exchange.specs.steps.Acting.{Tells, Acted, ActsOnFirst, reason}
use Rattle.xp_exchange.proofs.Acts.{acts_on_one, first_of_all, first_of_none, told_one}
use Rattle.xp_writing.proofs.Bytes.{appends_nothing}
use Rattle.xp_exchange.proofs.Tellings.{told_nothing}

module _ {A : Type 0} where
  pub told_step : (result : Result (Unit {0}) ReplayFault) (old new : Exchange A) (event : Event A) (entry : Entry A) (tables : Tables) (before after : Option (List ℕ))
      → (advances : Advances old event new entry) → length old.history + 4 ≤ old.subs.journal → tables ≡ force_in old → Tells before after (entry_text tables entry) result
      → (text : List ℕ) × Appends before after text × Acted old (event ∷ []) result new text
  told_step result old new event entry tables before after advances room same tells =
      go result (subst (λ text. Tells before after text result) (ap (λ force. entry_text force entry) same) tells)
    where
      go : (result : Result (Unit {0}) ReplayFault) → Tells before after (entry_text (force_in old) entry) result
          → (text : List ℕ) × Appends before after text × Acted old (event ∷ []) result new text
      go (Ok done) tells = (entry_text (force_in old) entry, tells, (acts_on_one old event new entry advances room, told_one old event new entry advances))
      go (Err Memory) tells = (
        [],
        tells,
        (
          first_of_all old new (event ∷ []) (acts_on_one old event new entry advances room),
          inr (record { entries = []; last = entry; history = advances.history; text_is = refl }),
        ),
      )
      go (Err Write) tells = (
        take tells.0 (entry_text (force_in old) entry),
        tells.1,
        (
          first_of_all old new (event ∷ []) (acts_on_one old event new entry advances room),
          record { whole = entry_text (force_in old) entry; told = told_one old event new entry advances; count = tells.0; front = refl },
        ),
      )
      go (Err Journal) tells = elim tells [ ]
      go (Err Read) tells = elim tells [ ]
      go (Err (Script number)) tells = elim tells [ ]
      go (Err (Lay number which)) tells = elim tells [ ]
      go (Err (Reload number which why)) tells = elim tells [ ]

  -- What was acted on and written does not depend on which records wait.
  acts_alike : (old new : Exchange A) (events : List (Event A)) (given waiting : List Record) → ActsOn old events new → ActsOn old events (record new { given = given; waiting = waiting })
  acts_alike old new events given waiting acts = record { entries = acts.entries; run = acts.run; of_events = acts.of_events; history = acts.history; subs = acts.subs; room = acts.room }

  abbrev first_alike : (old new : Exchange A) (events : List (Event A)) (given waiting : List Record) → ActsOnFirst old events new → ActsOnFirst old events (record new { given = given; waiting = waiting })
  first_alike old new events given waiting acted =
      record { first = acted.first; later = acted.later; in_order = acted.in_order; acts = acts_alike old new acted.first given waiting acted.acts }

  written_alike : (old new : Exchange A) (text : List ℕ) (given waiting : List Record) → IsWritten old new text → IsWritten old (record new { given = given; waiting = waiting }) text
  written_alike old new text given waiting written = record { entries = written.entries; history = written.history; text_is = written.text_is }

  pub acted_alike : (result : Result (Unit {0}) ReplayFault) (old new : Exchange A) (events : List (Event A)) (text : List ℕ) (given waiting : List Record)
      → Acted old events result new text → Acted old events result (record new { given = given; waiting = waiting }) text
  acted_alike (Ok done) old new events text given waiting acted = (acts_alike old new events given waiting acted.0, written_alike old new text given waiting acted.1)
  acted_alike (Err Journal) old new events text given waiting acted =
      (first_alike old new events given waiting acted.0, written_alike old new text given waiting acted.1, acted.2, acted.3)
  acted_alike (Err Memory) old new events text given waiting acted = (
    first_alike old new events given waiting acted.0,
    elim acted.1 [
      | inl refused ↦ inl (refused.0, written_alike old new text given waiting refused.1)
      | inr untold ↦ inr (record { entries = untold.entries; last = untold.last; history = untold.history; text_is = untold.text_is })
    ],
  )
  acted_alike (Err Write) old new events text given waiting acted = (
    first_alike old new events given waiting acted.0,
    record { whole = acted.1.whole; told = written_alike old new acted.1.whole given waiting acted.1.told; count = acted.1.count; front = acted.1.front },
  )
  acted_alike (Err Read) old new events text given waiting acted = elim acted [ ]
  acted_alike (Err (Script number)) old new events text given waiting acted = elim acted [ ]
  acted_alike (Err (Lay number which)) old new events text given waiting acted = elim acted [ ]
  acted_alike (Err (Reload number which why)) old new events text given waiting acted = elim acted [ ]

  -- One step, of whose records some may be handed over.
  pub entered : (old now new : Exchange A) (event : Event A) (entry : Entry A) (given waiting : List Record) → new ≡ record now { given = given; waiting = waiting }
      → Advances old event now entry → length old.history + 4 ≤ old.subs.journal → Enters old event new entry
  entered old now new event entry given waiting same advances room = subst (λ last. Enters old event last entry) (sym same) (record {
    event_is = advances.event_is;
    acts = acts_alike old now (event ∷ []) given waiting (acts_on_one old event now entry advances room);
    history = advances.history;
  })

  -- A refused step: the history is full, or memory was wanted.
  pub stopped : (old new : Exchange A) (event : Event A) (known : Option (List ℕ)) (fault : ReplayFault) → RefusesEvent old fault → new ≡ old
      → (text : List ℕ) × Appends known known text × Acted old (event ∷ []) (Err fault) new text
  stopped old new event known fault refused same =
      subst (λ now. (text : List ℕ) × Appends known known text × Acted old (event ∷ []) (Err fault) now text) (sym same) ([], appends_nothing known, go fault refused)
    where
      go : (fault : ReplayFault) → RefusesEvent old fault → Acted old (event ∷ []) (Err fault) old []
      go Journal refused = (first_of_none old (event ∷ []), told_nothing old, omega arith, refused)
      go Memory refused = (first_of_none old (event ∷ []), inl (omega arith, told_nothing old))
      go Write refused = elim refused [ ]
      go Read refused = elim refused [ ]
      go (Script number) refused = elim refused [ ]
      go (Lay number tables) refused = elim refused [ ]
      go (Reload number tables why) refused = elim refused [ ]

  -- a step that finds four places is refused for want of memory alone
  pub refused_step : (old : Exchange A) (event : Event A) (fault : StepFault A) (why : ReplayFault) → why ≡ reason fault → fault ≡ steps.Memory event → RefusesEvent old why
  refused_step old event fault why told memory = subst (RefusesEvent old) (sym (told ∙ ap reason memory)) tt
