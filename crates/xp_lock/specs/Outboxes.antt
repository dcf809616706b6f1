-- The outboxes of the lines, by line: how many places each has (`CAPACITY`), how many of them a line in service must have free
-- (`PLACES_KEPT`), and what changes where the exchange looks at the free places of a line.
use Rattle.std.specs.Prelude.{◌≡◌, ◌≢◌, ℕ, ◌+◌, ◌<◌, ◌≤◌, Bool, true, false, List, [], length, slice_index_or}
use Rattle.xp_outbox.specs.Ends.{Putting}
use Rattle.xp_step.specs.declared.output.Outgoing.{Outgoing}
use Rattle.xp_seats.specs.Views.{no_table}

-- how many items an outbox has room for
abbrev pub CAPACITY : ℕ
CAPACITY = 64

-- how many free places the outbox of a line in service has: room for all that one event puts out to the line
abbrev pub PLACES_KEPT : ℕ
PLACES_KEPT = 24

module _ {A : Type 0} where
  -- the outbox of a line that does not exist
  abbrev pub no_outbox : Putting (Outgoing A)
  no_outbox = record { queue = no_table; capacity = 0; put = []; free = 0 }

  -- the outbox of a line
  abbrev pub outbox_at : List (Putting (Outgoing A)) → ℕ → Putting (Outgoing A)
  outbox_at outboxes line = slice_index_or outboxes line no_outbox

  -- each of so many lines has an outbox with `CAPACITY` places
  abbrev pub HaveCapacity : ℕ → List (Putting (Outgoing A)) → Type 0
  HaveCapacity lines outboxes = (line : ℕ) → line < lines → (outbox_at outboxes line).capacity ≡ CAPACITY

  -- The exchange looked at the free places of an outbox: it knows of no fewer than before, and the places that it does not
  -- know to be free are no more than the items that were put
  pub record IsLookedAt (box after : Putting (Outgoing A)) : Type 0 where
    pub after_is : after ≡ record box { free = after.free }
    pub no_less : box.free ≤ after.free
    pub least : box.capacity ≤ after.free + length box.put

  -- the exchange looked at the free places of one line, and of no other
  pub record LooksAt (line : ℕ) (outboxes after : List (Putting (Outgoing A))) : Type 0 where
    pub count : length after ≡ length outboxes
    pub box : IsLookedAt (outbox_at outboxes line) (outbox_at after line)
    pub others : (other : ℕ) → other ≢ line → outbox_at after other ≡ outbox_at outboxes other

  -- it looked at the free places of one line where the test says so, and else at none
  abbrev pub LooksIf : Bool → ℕ → List (Putting (Outgoing A)) → List (Putting (Outgoing A)) → Type 0
  LooksIf true line outboxes after = LooksAt line outboxes after
  LooksIf false line outboxes after = after ≡ outboxes
