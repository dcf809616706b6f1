-- For private steps. What holds whenever a thread gets the lock (`IsKept`).
use Rattle.std.specs.Prelude.{◌≡◌, ℕ, ◌<◌, Option, Some, List, map}
use Rattle.atomic_table.specs.Seated.{TableId}
use Rattle.xp_charge.specs.declared.record.Record.{Record}
use Rattle.xp_outbox.specs.Ends.{Putting}
use Rattle.xp_subs.specs.Tables.{Tables, line_count}
use Rattle.xp_step.specs.declared.entry.Entry.{Entry}
use Rattle.xp_step.specs.declared.output.Outgoing.{Outgoing}
use Rattle.xp_step.specs.Exchange.{Exchange}
use Rattle.xp_core.specs.Records.{records_of}
use Rattle.xp_seats.specs.Handed.{handed}
use Rattle.xp_seats.specs.Views.{Seats, StartsWith, seen_by}
use Rattle.xp_lock.specs.Histories.{AreForced}
use Rattle.xp_lock.specs.steps.Outboxes.{OutboxesMatch}

module _ {A : Type 0} where
  -- What each holder of a seat saw is a front of the history. That of a line has all entries of its own, and that of the recorder the
  -- records that were handed over
  pub record AreFronts (lines : ℕ) (history : List (Entry A)) (given : List Record) (known : List (Option (List (Entry A)))) : Type 0 where
    pub fronts : (holder : ℕ) (seen : List (Entry A)) → seen_by known holder ≡ Some seen → StartsWith history seen
    pub own : (line : ℕ) (seen : List (Entry A)) → line < lines → seen_by known line ≡ Some seen → handed line history ≡ handed line seen
    pub recorded : (seen : List (Entry A)) → seen_by known lines ≡ Some seen → given ≡ records_of seen

  -- the exchange, its outboxes and the seats are those that these names stand for, and match one another
  pub record IsKept (subs : Tables) (queues : List TableId) (table : TableId) (core : Exchange A) (outboxes : List (Putting (Outgoing A))) (seats : Seats A) : Type 0 where
    pub subs_are : core.subs ≡ subs
    pub queues_are : map (λ b. b.queue) outboxes ≡ queues
    pub table_is : seats.table ≡ table
    pub matches : OutboxesMatch core.subs core.history outboxes
    pub forced : AreForced core.subs core.history
    pub fronts : AreFronts (line_count subs) core.history core.given seats.known
