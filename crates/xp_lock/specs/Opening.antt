-- The parts of an exchange before it starts (`Prepared`), and the passes that it starts with (`AreFirst`).
use Rattle.std.specs.Prelude.{◌≡◌, ℕ, ◌<◌, List, [], Some, length, slice_get}
use Rattle.atomic_table.specs.Seated.{TableId}
use Rattle.xp_subs.specs.Tables.{Tables}
use Rattle.xp_lock.specs.Passes.{Pass}

-- the subscriptions, the name of the table of the seats, and the names of the outboxes' queues by line
pub record Prepared : Type 0 where
  pub subs : Tables
  pub seats : TableId
  pub queues : List TableId

module _ {A : Type 0} where
  -- the pass of a line that has seen and taken nothing yet
  abbrev pub first_pass : ℕ → Pass A
  first_pass line = record { line = line; seen = []; taken = [] }

  -- these are the first passes of so many lines, in order
  pub record AreFirst (lines : ℕ) (passes : List (Pass A)) : Type 0 where
    pub count : length passes ≡ lines
    pub each : (line : ℕ) → line < lines → slice_get passes line ≡ Some (first_pass line)
