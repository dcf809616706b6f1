-- One step of the exchange: the event of one line, what is settled, put out and recorded, and the state after it.
use Rattle.std.specs.Prelude.{◌≡◌, ◌+◌, ◌<◌, List, length}
use Rattle.xp_subs.specs.Tables.{Tables}
use Rattle.xp_step.specs.declared.entry.Entry.{Entry}
use Rattle.xp_step.specs.Acts.{Acts}
use Rattle.xp_machine.specs.Changes.{all_changed, recorded_by}
use Rattle.xp_step.specs.Effects.{changes_of}
use Rattle.xp_step.specs.Segments.{segments_of}
use Rattle.xp_step.specs.StepContext.{step_context}
use Rattle.xp_step.specs.Table.{action_at}
use Rattle.xp_step.specs.EventOutputs.{EventOutputs, outputs_of}
use Rattle.xp_step.specs.InForce.{Brings, in_force}
use Rattle.xp_machine.specs.World.{World}

module _ {A : Type 0} where
  pub record Step (tables : Tables) (before : List (Entry A)) (world : World) (entry : Entry A) (next : World) : Type 0 where
    pub number : entry.number ≡ length before + 1
    pub line : entry.event.line < length world.lines
    pub told : EventOutputs A
    pub acts : Acts (step_context tables before world entry.event.line entry.event.moment) entry.event.what (action_at world entry.event) entry.outcome told
    pub brought : Brings (in_force tables before) world entry.event.what entry.tables.items
    pub outputs : entry.outputs ≡ outputs_of told
    pub records : entry.records.items ≡ recorded_by (segments_of tables before) entry.event.moment world (changes_of tables before world entry)
    pub leads : next ≡ all_changed (changes_of tables before world entry) world
