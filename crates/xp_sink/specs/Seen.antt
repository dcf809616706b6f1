-- What is seen of an exchange (`IsSeen`).
use Rattle.std.specs.Prelude.{◌≡◌, List}
use Rattle.std.specs.declared.alloc.Global.{Global as Alloc}
use Rattle.xp_charge.specs.declared.record.Record.{Record}
use Rattle.xp_core.specs.Records.{records_of}
use Rattle.xp_step.specs.Run.{Run}
use Rattle.xp_step.specs.Worlds.{world_after}
use Rattle.xp_step.specs.declared.entry.Entry.{Entry}
use Rattle.xp_subs.specs.Tables.{Tables}
use Rattle.xp_view.specs.Views.{Shows}
use Rattle.xp_view.specs.declared.view.ExchangeView.{ExchangeView}

-- This view shows an exchange of these subscriptions, in the state to which one of its histories leads. The history is a run of the
-- exchange machine, and its charging records are these, no more and no fewer.
pub record IsSeen (tables : Tables) (records : List Record) (view : ExchangeView Alloc) : Type 0 where
  pub history : List (Entry Alloc)
  pub legal : Run tables history (world_after tables history)
  pub records_are : records ≡ records_of history
  pub shows : Shows tables history view

-- the same, whatever its charging records are
abbrev pub IsSeenOf : Tables → ExchangeView Alloc → Type 0
IsSeenOf tables view = (records : List Record) × IsSeen tables records view
