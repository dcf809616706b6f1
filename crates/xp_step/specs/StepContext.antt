-- Where a step begins.
use Rattle.std.specs.Prelude.{ℕ, List}
use Rattle.xp_subs.specs.Tables.{Tables}
use Rattle.xp_step.specs.declared.entry.Entry.{Entry}
use Rattle.xp_step.specs.InForce.{in_force}
use Rattle.xp_machine.specs.World.{World}

pub record StepContext (A : Type 0) : Type 0 where
  -- the tables with which the exchange was opened, and those in force
  pub tables : Tables
  pub force : Tables
  -- the entries so far
  pub before : List (Entry A)
  -- the state that they led to
  pub world : World
  -- the line of the event, and its moment
  pub line : ℕ
  pub moment : ℕ

module _ {A : Type 0} where
  abbrev pub step_context : Tables → List (Entry A) → World → ℕ → ℕ → StepContext A
  step_context tables before world line moment = record { tables = tables; force = in_force tables before; before = before; world = world; line = line; moment = moment }
