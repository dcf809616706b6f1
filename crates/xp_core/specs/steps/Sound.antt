-- Plain facts of every state that a history leads to.
use Rattle.std.specs.Prelude.{◌≡◌, ℕ, ◌+◌, ◌≤◌, None, length}
use Rattle.xp_subs.specs.Tables.{Tables, line_count}
use Rattle.xp_machine.specs.World.{World, call_numbered, line_at}

pub record IsSound (tables : Tables) (entries : ℕ) (world : World) : Type 0 where
  -- the lines are those of the subscriptions
  pub lines : length world.lines ≡ line_count tables
  -- no entry makes more than one call
  pub next : world.next ≤ entries + 1
  -- no number from the next on is a live call's
  pub fresh : (number : ℕ) → world.next ≤ number → call_numbered world number ≡ None
  -- no entry brings more than one connection
  pub connection : (line : ℕ) → (line_at world line).connection ≤ entries
