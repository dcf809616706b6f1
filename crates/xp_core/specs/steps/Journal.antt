-- The journal, as it is kept.
use Rattle.std.specs.Prelude.{◌≡◌, ℕ, ◌+◌, ◌-◌, ◌<◌, List, [], ◌++◌, length}
use Rattle.xp_past.specs.declared.past.Past.{Past}
use Rattle.xp_subs.specs.Tables.{Tables}
use Rattle.xp_charge.specs.declared.record.Record.{Record}
use Rattle.xp_core.specs.declared.advance.PreparedEntry.{PreparedEntry}
use Rattle.xp_step.specs.declared.entry.Entry.{Entry}
use Rattle.xp_step.specs.declared.event.Event.{Event}

pub record Journaled (A : Type 0) : Type 0 where
  pub history : List (Entry A)
  -- the records that were handed over, and those that wait
  pub given : List Record
  pub waiting : List Record
  -- how many stalls are prepared
  pub stalls : ℕ
  -- how many more records there is room for, those of the prepared stalls among them
  pub record_room : ℕ

module _ {A : Type 0} where
  -- the same is entered, and as many stalls are prepared
  pub record AreSame (old new : Journaled A) : Type 0 where
    pub history : new.history ≡ old.history
    pub given : new.given ≡ old.given
    pub waiting : new.waiting ≡ old.waiting
    pub stalls : new.stalls ≡ old.stalls

  -- the records that waited were handed over
  pub record HasHandedOver (old new : Journaled A) : Type 0 where
    pub history : new.history ≡ old.history
    pub given : new.given ≡ old.given ++ old.waiting
    pub waiting : new.waiting ≡ []
    pub stalls : new.stalls ≡ old.stalls

  -- the spare of a prepared stall is taken, and the place of that stall is free
  pub record IsSpent (old new : Journaled A) : Type 0 where
    pub prepared : 0 < old.stalls
    pub is : new ≡ record old { stalls = old.stalls - 1 }
    pub record_room : new.stalls < new.record_room

  -- the next entry, of an event that leads to this and brings these tables
  abbrev pub next_entry : List (Entry A) → Event A → PreparedEntry A → Past Tables → Entry A
  next_entry history event work tables = record {
    number = length history + 1;
    event = event;
    outcome = work.outcome;
    outputs = work.outputs;
    records = work.records;
    tables = tables;
  }
