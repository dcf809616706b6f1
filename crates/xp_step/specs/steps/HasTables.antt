-- For private steps. Where the code looks up rights and addresses.
use Rattle.std.specs.Prelude.{◌≡◌, List}
use Rattle.xp_step.specs.declared.entry.Entry.{Entry}
use Rattle.xp_step.specs.declared.plan.event_line.EventLine.{EventLine}
use Rattle.xp_step.specs.InForce.{in_force}

module _ {A : Type 0} where
  -- it does so in the tables in force after these entries
  abbrev pub HasTables : EventLine A → List (Entry A) → Type 0
  HasTables found before = found.in_force.now ≡ in_force found.subs.now before
