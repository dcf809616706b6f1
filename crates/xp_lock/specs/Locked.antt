-- What the lock protects (`Locked`), what becomes of it as an event is taken (`Takes`), and when an event is refused (`Refuses`).
use Rattle.std.specs.Prelude.{◌≡◌, ℕ, ◌+◌, ◌<◌, ◌≤◌, Bool, true, false, List, ◌++◌, length}
use Rattle.xp_charge.specs.declared.record.Record.{Record}
use Rattle.xp_outbox.specs.Ends.{Putting}
use Rattle.xp_subs.specs.Tables.{Tables}
use Rattle.xp_step.specs.declared.entry.Entry.{Entry}
use Rattle.xp_step.specs.declared.event.Event.{Event}
use Rattle.xp_step.specs.declared.event.What.{What}
use Rattle.xp_step.specs.declared.event.What.TheVariants.{Up}
use Rattle.xp_step.specs.declared.output.Outgoing.{Outgoing}
use Rattle.xp_core.specs.Records.{records_of}
use Rattle.xp_lock.specs.declared.receipt.Receipt.{Receipt}
use Rattle.xp_lock.specs.declared.fault.OfferFault.{OfferFault}
use Rattle.xp_lock.specs.declared.fault.OfferFault.TheVariants.{Halted, JournalFull, NoRoom, Memory}
use Rattle.xp_lock.specs.Entered.{Enters}
use Rattle.xp_lock.specs.Histories.{Forcing, entries_of}
use Rattle.xp_lock.specs.Outboxes.{LooksIf, PLACES_KEPT, outbox_at}
use Rattle.xp_lock.specs.Outgoing.{put_out_to}

-- the subscriptions, the history, the records that were handed over and those that wait, the put ends of the outboxes, and
-- whether every event is refused
pub record Locked (A : Type 0) : Type 0 where
  pub subs : Tables
  pub history : List (Entry A)
  pub given : List Record
  pub waiting : List Record
  -- by line
  pub outboxes : List (Putting (Outgoing A))
  pub halted : Bool

module _ {A : Type 0} where
  abbrev pub is_up : What A → Bool
  is_up Up = true
  is_up what = false

  -- the history has a place for an event, and three for the stalls that it may force
  abbrev pub HasPlaces : Locked A → Type 0
  HasPlaces locked = length locked.history + 4 ≤ locked.subs.journal

  -- These items were put into an outbox. Before that, so many of its places were known to be free
  pub record IsGiven (items : List (Outgoing A)) (places : ℕ) (box after : Putting (Outgoing A)) : Type 0 where
    pub queue : after.queue ≡ box.queue
    pub capacity : after.capacity ≡ box.capacity
    pub put : after.put ≡ box.put ++ items
    pub free : after.free + length items ≡ places
    pub known : box.free ≤ places

  -- what the entries of an event and of its stalls put out to a line was put into its outbox
  pub record IsFilled (forcing : Forcing A) (outboxes after : List (Putting (Outgoing A))) : Type 0 where
    pub count : length after ≡ length outboxes
    pub each : (line : ℕ) → IsGiven (put_out_to line (entries_of forcing)) (forcing.places line) (outbox_at outboxes line) (outbox_at after line)

  -- the event was entered, with the stalls that it forces, and their outputs were put into the outboxes
  pub record Takes (old : Locked A) (event : Event A) (done : Receipt) (new : Locked A) : Type 0 where
    pub running : old.halted ≡ false
    pub places : HasPlaces old
    pub entered : Enters old.subs old.history event done new.history
    pub filled : IsFilled entered.forcing old.outboxes new.outboxes
    -- a line comes up only if its outbox has room
    pub room : is_up event.what ≡ true → PLACES_KEPT ≤ entered.forcing.places event.line
    -- the records of these entries wait until they are handed over
    pub rest : new ≡ record old { history = new.history; waiting = old.waiting ++ records_of (entries_of entered.forcing); outboxes = new.outboxes }

  -- at an Up the exchange looked at the free places of the line, and nothing else changed
  abbrev pub Looks : Locked A → ℕ → Bool → Locked A → Type 0
  Looks old line up new = (new ≡ record old { outboxes = new.outboxes }) × LooksIf up line old.outboxes new.outboxes

  -- The event was refused for the first reason that applies. Of the state no more changed than this says
  abbrev pub Refuses : Locked A → Event A → OfferFault A → Locked A → Type 0
  Refuses old event (Halted back) new = (old.halted ≡ true) × (new ≡ old)
  Refuses old event (JournalFull back) new = (old.halted ≡ false) × (old.subs.journal < length old.history + 4) × (new ≡ old)
  Refuses old event (NoRoom back) new =
      (old.halted ≡ false) × HasPlaces old × (is_up event.what ≡ true) × Looks old event.line true new
      × ((outbox_at new.outboxes event.line).free < PLACES_KEPT)
  Refuses old event (Memory back) new =
      (old.halted ≡ false) × HasPlaces old × Looks old event.line (is_up event.what) new
      × (is_up event.what ≡ true → PLACES_KEPT ≤ (outbox_at new.outboxes event.line).free)
