-- The line of an event and the call that it is in, as the code finds them.
use Rattle.std.specs.Prelude.{◌≡◌, ◌≤◌, Option, None, Some, List}
use Rattle.xp_step.specs.declared.entry.Entry.{Entry}
use Rattle.xp_step.specs.declared.plan.event_line.MeteredCall.{MeteredCall}
use Rattle.xp_step.specs.declared.plan.event_line.EventLine.{EventLine}
use Rattle.xp_machine.specs.StoredState.{call_of_stored, entry_of}
use Rattle.xp_step.specs.Relays.{counted_by}
use Rattle.xp_step.specs.StepContext.{StepContext, step_context}
use Rattle.xp_machine.specs.World.{call_on}

-- the counts of a meter have at most eight digits
abbrev pub IsShort : Option MeteredCall → Type 0
IsShort None = Unit {0}
IsShort (Some charged) = charged.meter.limit ≤ 99_999_999

module _ {A : Type 0} where
  -- where the step begins, after these entries
  abbrev pub event_line_context : EventLine A → List (Entry A) → StepContext A
  event_line_context found before = step_context found.subs.now before found.machine.now found.line found.moment

  -- the call, with what was counted of it so far, or none
  abbrev pub IsMeteredCall : StepContext A → Option MeteredCall → Type 0
  IsMeteredCall at None = call_on at.world at.line ≡ None
  IsMeteredCall at (Some charged) =
      (call_on at.world at.line ≡ Some (entry_of charged.call.now))
      × (charged.meter ≡ counted_by at.tables at.before charged.call.now.number (call_of_stored charged.call.now) charged.call.now.agreed)

  abbrev pub IsEventLine : EventLine A → List (Entry A) → Type 0
  IsEventLine found before = IsMeteredCall (event_line_context found before) found.charged
