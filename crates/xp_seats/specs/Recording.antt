-- The recorder of an exchange as contracts see it (`Recording`), and what it is as it receives records (`Receives`).
use Rattle.std.specs.Prelude.{◌≡◌, List, ◌++◌, All}
use Rattle.xp_charge.specs.Lines.{HasLines as NamesLines}
use Rattle.xp_charge.specs.declared.record.Record.{Record}
use Rattle.xp_core.specs.Records.{OneRecordEach, records_of}
use Rattle.xp_step.specs.Run.{Run}
use Rattle.xp_step.specs.Worlds.{world_after}
use Rattle.xp_step.specs.declared.entry.Entry.{Entry}
use Rattle.xp_subs.specs.Tables.{Tables, line_count}
use Rattle.xp_seats.specs.Views.{StartsWith}

-- a recorder
pub record Recording (A : Type 0) : Type 0 where
  -- the history as it was when the recorder last took records
  pub seen : List (Entry A)
  -- the records that the recorder took, in order
  pub received : List Record

module _ {A : Type 0} where
  -- The recorder received these records, behind those that it had. It saw more of the history, which is a run of the exchange machine.
  -- What it has are the records of this history: one for each call that ended, and no other
  pub record Receives (subs : Tables) (old : Recording A) (records : List Record) (new : Recording A) : Type 0 where
    pub taken : new.received ≡ old.received ++ records
    pub each : new.received ≡ records_of new.seen
    pub seen : StartsWith new.seen old.seen
    pub legal : Run subs new.seen (world_after subs new.seen)
    pub one_each : OneRecordEach subs new.seen (world_after subs new.seen)
    -- they name lines of the subscriptions
    pub lines : All (NamesLines (line_count subs)) records
