-- A run leads to the world that its history tells.
use Rattle.std.proofs.Common.{◌≡◌, ◌∙◌, List, [], ◌∷◌, ◌++◌, ap}
use Rattle.xp_subs.specs.Tables.{Tables, line_count}
use Rattle.xp_step.specs.declared.entry.Entry.{Entry}
use Rattle.xp_step.specs.Run.{Run, RunFrom}
use Rattle.xp_step.specs.Worlds.{world_after, world_from}
use Rattle.xp_machine.specs.World.{World, opening}

module _ {A : Type 0} where
  run_from_world : (tables : Tables) (before : List (Entry A)) (world : World) (entries : List (Entry A)) (last : World)
      → RunFrom tables before world entries last → last ≡ world_from tables before world entries
  run_from_world tables before world [] last same = same
  run_from_world tables before world (entry ∷ entries) last run =
      run_from_world tables (before ++ entry ∷ []) run.0 entries last run.2
      ∙ ap (λ w. world_from tables (before ++ entry ∷ []) w entries) run.1.leads

  -- a history of a run leads to one world
  pub run_world : (tables : Tables) (history : List (Entry A)) (world : World) → Run tables history world → world ≡ world_after tables history
  run_world tables history world run = run_from_world tables [] (opening (line_count tables)) history world run
