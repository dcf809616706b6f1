-- An event that was entered under the lock (`Enters`): the stalls that it forced, and its receipt.
use Rattle.std.specs.Prelude.{◌≡◌, List, ◌++◌, length}
use Rattle.xp_subs.specs.Tables.{Tables}
use Rattle.xp_step.specs.declared.entry.Entry.{Entry}
use Rattle.xp_step.specs.declared.event.Event.{Event}
use Rattle.xp_core.specs.Records.{records_of}
use Rattle.xp_step.specs.Worlds.{world_after}
use Rattle.xp_machine.specs.World.{line_at}
use Rattle.xp_lock.specs.declared.receipt.Receipt.{Receipt}
use Rattle.xp_lock.specs.Given.{AreGiven}
use Rattle.xp_lock.specs.Histories.{Forcing, IsForcing, entries_of}

-- Behind these entries the history grew by the entry of the event, and by those of the stalls that it forced, three at most
pub record Enters {A : Type 0} (subs : Tables) (before : List (Entry A)) (event : Event A) (done : Receipt) (after : List (Entry A)) : Type 0 where
  pub forcing : Forcing A
  pub event_is : forcing.entry.event ≡ event
  pub forced : IsForcing subs before forcing
  pub history : after ≡ before ++ entries_of forcing
  -- the receipt is this
  pub number : done.entry ≡ forcing.entry.number
  pub records : done.records ≡ length (records_of after)
  pub connection : done.connection ≡ (line_at (world_after subs after) event.line).connection
  pub given : AreGiven (entries_of forcing) done.given.items
