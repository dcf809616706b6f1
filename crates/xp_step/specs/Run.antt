-- Whole histories.
use Rattle.std.specs.Prelude.{◌≡◌, List, [], ◌∷◌, ◌++◌}
use Rattle.xp_subs.specs.Tables.{Tables, line_count}
use Rattle.xp_step.specs.declared.entry.Entry.{Entry}
use Rattle.xp_step.specs.Step.{Step}
use Rattle.xp_machine.specs.World.{World, opening}

module _ {A : Type 0} where
  -- the entries before led to this state, and the further ones lead from it to the last
  abbrev pub RunFrom : Tables → List (Entry A) → World → List (Entry A) → World → Type 0
  RunFrom tables before world [] last = last ≡ world
  RunFrom tables before world (entry ∷ entries) last =
      (next : World) × Step tables before world entry next × RunFrom tables (before ++ entry ∷ []) next entries last

  -- the history leads from the opening state to this one
  abbrev pub Run : Tables → List (Entry A) → World → Type 0
  Run tables history world = RunFrom tables [] (opening (line_count tables)) history world
