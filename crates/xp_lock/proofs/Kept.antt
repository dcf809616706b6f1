-- What the lock protects is kept by whatever happens under it.
use Rattle.std.proofs.Common.{arith, ◌≡◌, ℕ, ◌<◌, Bool, false, Some, List, [], ◌++◌, set, sym, refl, ap, ◌∙◌, subst, append-nil}
use Rattle.atomic_table.specs.Seated.{TableId}
use Rattle.xp_charge.specs.declared.record.Record.{Record}
use Rattle.xp_outbox.specs.Ends.{Putting}
use Rattle.xp_core.specs.Records.{records_of}
use Rattle.xp_step.specs.declared.event.Event.{Event}
use Rattle.xp_step.specs.declared.output.Outgoing.{Outgoing}
use Rattle.xp_step.specs.Exchange.{Exchange}
use Rattle.xp_subs.specs.Tables.{Tables, line_count}
use Rattle.xp_seats.specs.Handed.{is_raised}
use Rattle.xp_seats.specs.Views.{Seats}
use Rattle.xp_lock.specs.declared.receipt.Receipt.{Receipt}
use Rattle.xp_lock.specs.Histories.{AreForced, entries_of}
use Rattle.xp_lock.specs.Locked.{Locked, Takes}
use Rattle.xp_lock.specs.Reloading.{Reloads}
use Rattle.xp_lock.specs.steps.Keeping.{AreFronts, IsKept}
use Rattle.xp_lock.specs.steps.Outboxes.{AreAlike, OutboxesMatch}
use Rattle.xp_lock.specs.steps.Stalling.{with_outboxes}
use Rattle.xp_lock.proofs.Fresh.{handed_other}
use Rattle.xp_lock.proofs.Fronts.{fronts_recorded, fronts_seen}
use Rattle.xp_lock.proofs.Histories.{forced_taken}
use Rattle.xp_lock.proofs.Queues.{filled_queues, same_queues}
use Rattle.xp_lock.proofs.Ready.{kept_ready}
use Rattle.xp_lock.proofs.Reloads.{reload_entries, reload_entries_are, reload_handed}

-- what the lock protects
abbrev pub viewed : {A : Type 0} → Exchange A → List (Putting (Outgoing A)) → Bool → Locked A
viewed core outboxes halted = record { subs = core.subs; history = core.history; given = core.given; waiting = core.waiting; outboxes = outboxes; halted = halted }

-- a take, as the lock has it, where stalls were prepared before
pub taken_viewed : {A : Type 0} (core mid next : Exchange A) (outboxes after last : List (Putting (Outgoing A))) (halted : Bool) (event : Event A) (done : Receipt) → halted ≡ false
    → mid ≡ record core { stalls = mid.stalls } → last ≡ after → Takes (with_outboxes mid outboxes) event done (with_outboxes next after)
    → Takes (viewed core outboxes halted) event done (viewed next last halted)
taken_viewed core mid next outboxes after last halted event done running same unmoved takes = grind arith

module _ {A : Type 0} (subs : Tables) (queues : List TableId) (table : TableId) (core : Exchange A) (outboxes : List (Putting (Outgoing A))) (seats : Seats A)
    (was : IsKept subs queues table core outboxes seats) (next : Exchange A) (after : List (Putting (Outgoing A))) where
  -- the exchange looked at free places, and prepared stalls
  pub kept_looked : AreAlike outboxes after → next ≡ record core { stalls = next.stalls } → IsKept subs queues table next after seats
  kept_looked alike same = grind (arith, kept_ready, same_queues)

  -- an event of a line was taken, and the line saw that
  pub kept_taken : (event : Event A) (done : Receipt) → Takes (with_outboxes core outboxes) event done (with_outboxes next after) → is_raised event.what ≡ false → event.line < line_count subs
      → OutboxesMatch next.subs next.history after → IsKept subs queues table next after (record seats { known = set seats.known event.line (Some next.history) })
  kept_taken event done takes kind within matches =
      let entered = takes.entered in
      let same = ap (λ l. l.subs) takes.rest in
      record {
        subs_are = same ∙ was.subs_are;
        queues_are = same_queues outboxes after takes.filled.count (λ line. (takes.filled.each line).queue) ∙ was.queues_are;
        table_is = was.table_is;
        matches = matches;
        forced = subst (λ t. AreForced t next.history) (sym same) (forced_taken (with_outboxes core outboxes) event done (with_outboxes next after) takes kind was.forced);
        fronts =
            let seen = fronts_seen (line_count subs) core.history core.given seats.known was.fronts (entries_of entered.forcing) next.history entered.history event.line within
            (λ other apart. handed_other core.subs core.history entered.forcing entered.forced other (λ here. apart (sym here ∙ ap (λ e. e.line) entered.event_is))) in
            subst (λ given. AreFronts (line_count subs) next.history given (set seats.known event.line (Some next.history))) (sym (ap (λ l. l.given) takes.rest)) seen;
      }

  -- the records that wait were handed over
  pub kept_recorded : next ≡ record core { given = core.given ++ core.waiting; waiting = [] } → after ≡ outboxes → core.given ++ core.waiting ≡ records_of core.history
      → IsKept subs queues table next after (record seats { known = set seats.known (line_count subs) (Some next.history) })
  kept_recorded same unmoved each =
      let recorded : IsKept subs queues table (record core { given = core.given ++ core.waiting; waiting = [] }) outboxes (record seats { known = set seats.known (line_count subs) (Some core.history) }) =
      record {
        subs_are = was.subs_are;
        queues_are = was.queues_are;
        table_is = was.table_is;
        matches = was.matches;
        forced = was.forced;
        fronts = fronts_recorded (line_count subs) core.history core.given seats.known was.fronts [] core.history (sym (append-nil core.history)) (core.given ++ core.waiting) each (λ line. refl);
      } in
      subst (λ boxes. IsKept subs queues table next boxes (record seats { known = set seats.known (line_count subs) (Some next.history) })) (sym unmoved)
      (subst (λ c. IsKept subs queues table c outboxes (record seats { known = set seats.known (line_count subs) (Some c.history) })) (sym same) recorded)

  -- other subscriptions came into force
  pub kept_reloaded : (coming : Tables) (moment : ℕ) (records : List Record) → Reloads (with_outboxes core outboxes) coming moment records (with_outboxes next after)
      → OutboxesMatch next.subs next.history after → AreForced next.subs next.history → core.given ++ records ≡ records_of next.history
      → IsKept subs queues table next after (record seats { known = set seats.known (line_count subs) (Some next.history) })
  kept_reloaded coming moment records did matches forced each = record {
    subs_are = ap (λ l. l.subs) did.grown ∙ was.subs_are;
    queues_are = filled_queues did.given_up outboxes after did.filled ∙ was.queues_are;
    table_is = was.table_is;
    matches = matches;
    forced = forced;
    fronts = fronts_recorded (line_count subs) core.history core.given seats.known was.fronts (reload_entries _ _ _ _ _ did) next.history (reload_entries_are _ _ _ _ _ did) next.given
        (ap (λ l. l.given) did.grown ∙ each) (reload_handed _ _ _ _ _ did);
  }
