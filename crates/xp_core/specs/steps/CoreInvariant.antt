-- The invariant of a core.
use Rattle.std.specs.Prelude.{◌≡◌, ◌≤◌, Option, List, length}
use Rattle.xp_subs.specs.Sound.{IsSound}
use Rattle.xp_subs.specs.Tables.{Tables, line_count}
use Rattle.xp_step.specs.declared.entry.Entry.{Entry}
use Rattle.xp_charge.specs.declared.record.Record.{Record}
use Rattle.xp_machine.specs.declared.relays.MeteredRelay.{MeteredRelay}
use Rattle.xp_core.specs.Records.{records_of}
use Rattle.xp_step.specs.Relays.{RelaysRepresentCalls}
use Rattle.xp_step.specs.Run.{Run}
use Rattle.xp_step.specs.Worlds.{world_after}
use Rattle.xp_machine.specs.World.{World}
use Rattle.xp_step.specs.InForce.{force_of, in_force}
use Rattle.xp_step.specs.declared.in_force.SubsInForce.{SubsInForce}
use Rattle.xp_core.specs.steps.Writable.{AreReadable}

module _ {A : Type 0} where
  -- the subscriptions are sound, the history is that of a run, and what is kept shows the state that it leads to
  pub record CoreInvariant (tables : Tables) (history : List (Entry A)) (machine : World) (relays : List (Option (MeteredRelay A))) (records : List Record) : Type 0 where
    pub sound : IsSound tables
    pub run : Run tables history (world_after tables history)
    pub readable : AreReadable history
    pub shown : machine ≡ world_after tables history
    pub carried : RelaysRepresentCalls tables history machine relays
    pub places : length relays ≡ line_count tables
    pub charged : records ≡ records_of history
    pub within : length history ≤ tables.journal

  -- and rights and addresses are looked up in the tables in force
  pub record IsKept (subs : SubsInForce) (history : List (Entry A)) (machine : World) (relays : List (Option (MeteredRelay A))) (records : List Record) : Type 0 where
    pub core : CoreInvariant subs.opening history machine relays records
    pub force : force_of subs ≡ in_force subs.opening history
