-- For private steps. When an event can be entered, and which line it forces to be stalled next.
use Rattle.std.specs.Prelude.{◌≡◌, ℕ, ◌≤◌, ◌&&◌, nat_lt, not, Bool, true, false, Option, List, filter, length, min}
use Rattle.std.specs.List.{reduce}
use Rattle.xp_outbox.specs.Ends.{Putting}
use Rattle.xp_step.specs.declared.event.Event.{Event}
use Rattle.xp_step.specs.declared.output.Outgoing.{Outgoing}
use Rattle.xp_machine.specs.Channel.{is_off}
use Rattle.xp_step.specs.Exchange.{Exchange, world_of}
use Rattle.xp_machine.specs.World.{state_at}
use Rattle.xp_lock.specs.Outboxes.{PLACES_KEPT, outbox_at}
use Rattle.xp_lock.specs.steps.Outboxes.{AreAlike, OutboxesMatch}
use Rattle.xp_lock.specs.declared.receipt.Receipt.{Receipt}
use Rattle.xp_lock.specs.Locked.{HasPlaces, Locked, Takes, is_up}

module _ {A : Type 0} where
  -- the core with these outboxes, not halted
  abbrev pub with_outboxes : Exchange A → List (Putting (Outgoing A)) → Locked A
  with_outboxes core outboxes = record { subs = core.subs; history = core.history; given = core.given; waiting = core.waiting; outboxes = outboxes; halted = false }

  -- the event can be entered
  pub record CanEnter (locked : Locked A) (event : Event A) : Type 0 where
    pub running : locked.halted ≡ false
    pub kept : OutboxesMatch locked.subs locked.history locked.outboxes
    pub places : HasPlaces locked
    pub room : is_up event.what ≡ true → PLACES_KEPT ≤ (outbox_at locked.outboxes event.line).free

  -- The event was taken, with these outboxes, or such as knew of fewer free places before the exchange looked at them
  abbrev pub HasTaken : Exchange A → List (Putting (Outgoing A)) → Event A → Receipt → Exchange A → List (Putting (Outgoing A)) → Type 0
  HasTaken core outboxes event done new after =
      (first : List (Putting (Outgoing A))) → AreAlike first outboxes → Takes (with_outboxes core first) event done (with_outboxes new after)

  -- a line is in service, and fewer than 24 places of its outbox are known to be free
  abbrev pub is_short : Exchange A → List (Putting (Outgoing A)) → ℕ → Bool
  is_short core outboxes line = nat_lt line (length outboxes) && (nat_lt (outbox_at outboxes line).free PLACES_KEPT && not (is_off (state_at (world_of core) line)))

  -- the lowest of these lines that is short of places
  abbrev pub lowest_short : Exchange A → List (Putting (Outgoing A)) → List ℕ → Option ℕ
  lowest_short core outboxes lines = reduce min (filter (is_short core outboxes) lines)

  -- the exchange looked at the free places of some lines in service, and of no others
  pub record IsSearched (core : Exchange A) (outboxes after : List (Putting (Outgoing A))) : Type 0 where
    pub alike : AreAlike outboxes after
    pub still : (line : ℕ) → is_off (state_at (world_of core) line) ≡ true → outbox_at after line ≡ outbox_at outboxes line
