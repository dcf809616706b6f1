-- Other subscriptions that came into force (`AreInForce`).
use Rattle.std.specs.Prelude.{◌≡◌, List}
use Rattle.std.specs.declared.alloc.Global.{Global as Alloc}
use Rattle.xp_charge.specs.declared.record.Record.{Record}
use Rattle.xp_core.specs.Records.{records_of}
use Rattle.xp_reload.specs.Frame.{IsSameFrame}
use Rattle.xp_step.specs.InForce.{in_force}
use Rattle.xp_step.specs.Run.{Run}
use Rattle.xp_step.specs.Worlds.{world_after}
use Rattle.xp_step.specs.declared.entry.Entry.{Entry}
use Rattle.xp_subs.specs.Tables.{Tables}

-- These subscriptions are in force in an exchange that was opened with the first ones, after one of its histories. The history is a run
-- of the exchange machine, and its charging records are these, no more and no fewer.
pub record AreInForce (opening : Tables) (records : List Record) (next : Tables) : Type 0 where
  pub history : List (Entry Alloc)
  pub legal : Run opening history (world_after opening history)
  pub records_are : records ≡ records_of history
  pub in_force : in_force opening history ≡ next
  -- they have the lines that the first ones have
  pub frame : IsSameFrame opening next

-- the same, whatever its charging records are
abbrev pub IsInForce : Tables → Tables → Type 0
IsInForce opening next = (records : List Record) × AreInForce opening records next
