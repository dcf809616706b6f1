-- The machine is stuck in no state that a history leads to.
use Rattle.std.specs.Prelude.{◌≡◌, ◌<◌, List}
use Rattle.xp_subs.specs.Sound.{IsSound}
use Rattle.xp_subs.specs.Tables.{Tables, line_count}
use Rattle.xp_step.specs.declared.entry.Entry.{Entry}
use Rattle.xp_step.specs.declared.event.Event.{Event}
use Rattle.xp_step.specs.Exchange.{IsReadable}
use Rattle.xp_step.specs.Run.{Run}
use Rattle.xp_step.specs.Step.{Step}
use Rattle.xp_machine.specs.World.{World}

-- there is an entry of this event that is a step, and a state that it leads to
pub record HasStep {A : Type 0} (tables : Tables) (history : List (Entry A)) (world : World) (event : Event A) : Type 0 where
  pub entry : Entry A
  pub next : World
  pub event_is : entry.event ≡ event
  pub step : Step tables history world entry next

-- every event of a line of the subscriptions has a step, from every state that a history leads to
abbrev pub EveryEventHasStep : Type 0 → Type 0
EveryEventHasStep A =
    (tables : Tables) (history : List (Entry A)) (world : World) (event : Event A)
    → IsSound tables → Run tables history world → event.line < line_count tables → IsReadable event.what
    → HasStep tables history world event
