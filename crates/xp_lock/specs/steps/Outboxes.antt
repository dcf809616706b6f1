-- For private steps. What outputs add to the outboxes, what a look leaves as it was, and how the outboxes match the history.
use Rattle.std.specs.Prelude.{◌≡◌, ℕ, ◌-◌, ◌<◌, ◌≤◌, false, List, ◌++◌, length}
use Rattle.xp_outbox.specs.Ends.{Putting}
use Rattle.xp_subs.specs.Tables.{Tables, line_count}
use Rattle.xp_step.specs.declared.entry.Entry.{Entry}
use Rattle.xp_step.specs.declared.output.Outgoing.{Outgoing}
use Rattle.xp_step.specs.declared.output.Output.{Output}
use Rattle.xp_machine.specs.Channel.{is_off}
use Rattle.xp_step.specs.Worlds.{world_after}
use Rattle.xp_machine.specs.World.{state_at}
use Rattle.xp_lock.specs.Outgoing.{put_out_to, to_line}
use Rattle.xp_lock.specs.Outboxes.{HaveCapacity, PLACES_KEPT, outbox_at}

module _ {A : Type 0} where
  -- an outbox into which these items were put as well
  abbrev pub with_items : Putting (Outgoing A) → List (Outgoing A) → Putting (Outgoing A)
  with_items box items = record box { put = box.put ++ items; free = box.free - length items }

  -- each outbox has room for the outputs to its line
  abbrev pub HasRoomFor : List (Output A) → List (Putting (Outgoing A)) → Type 0
  HasRoomFor outputs outboxes = (line : ℕ) → length (to_line line outputs) ≤ (outbox_at outboxes line).free

  -- these outputs were put into the outboxes of their lines, in order
  pub record IsPut (outputs : List (Output A)) (outboxes after : List (Putting (Outgoing A))) : Type 0 where
    pub count : length after ≡ length outboxes
    pub each : (line : ℕ) → outbox_at after line ≡ with_items (outbox_at outboxes line) (to_line line outputs)

  -- the same outbox, with no fewer places that are known to be free
  pub record IsAlike (box after : Putting (Outgoing A)) : Type 0 where
    pub queue : after.queue ≡ box.queue
    pub capacity : after.capacity ≡ box.capacity
    pub put : after.put ≡ box.put
    pub free : box.free ≤ after.free

  -- so of all outboxes
  pub record AreAlike (outboxes after : List (Putting (Outgoing A))) : Type 0 where
    pub count : length after ≡ length outboxes
    pub each : (line : ℕ) → IsAlike (outbox_at outboxes line) (outbox_at after line)

  -- Each line has an outbox with 64 places, into which all was put that the history puts out to the line. A line in service
  -- has 24 free places. The history is no longer than the journal may be
  pub record OutboxesMatch (subs : Tables) (history : List (Entry A)) (outboxes : List (Putting (Outgoing A))) : Type 0 where
    pub count : length outboxes ≡ line_count subs
    pub capacities : HaveCapacity (line_count subs) outboxes
    pub put : (line : ℕ) → line < length outboxes → (outbox_at outboxes line).put ≡ put_out_to line history
    pub places : (line : ℕ) → is_off (state_at (world_after subs history) line) ≡ false → PLACES_KEPT ≤ (outbox_at outboxes line).free
    pub few : length history ≤ subs.journal
