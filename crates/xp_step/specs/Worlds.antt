-- The states that histories lead to.
use Rattle.std.specs.Prelude.{List, [], ◌∷◌, ◌++◌}
use Rattle.xp_subs.specs.Tables.{Tables, line_count}
use Rattle.xp_step.specs.declared.entry.Entry.{Entry}
use Rattle.xp_machine.specs.Changes.{all_changed}
use Rattle.xp_step.specs.Effects.{changes_of}
use Rattle.xp_machine.specs.World.{World, opening}

module _ {A : Type 0} where
  -- the state that an entry leads to
  abbrev pub world_next : Tables → List (Entry A) → World → Entry A → World
  world_next tables before world entry = all_changed (changes_of tables before world entry) world

  abbrev pub world_from : Tables → List (Entry A) → World → List (Entry A) → World
  world_from tables before world [] = world
  world_from tables before world (entry ∷ entries) =
      world_from tables (before ++ entry ∷ []) (world_next tables before world entry) entries

  -- the state that a history leads to, if it is the history of a run
  abbrev pub world_after : Tables → List (Entry A) → World
  world_after tables history = world_from tables [] (opening (line_count tables)) history
