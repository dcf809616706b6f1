use Rattle.std.proofs.Common.{◌≡◌, Ok, map, take}
use Rattle.std.specs.Fn.{FnReturnsAt}
use Rattle.toml.specs.View.{table_view}
use Rattle.xp_file.specs.Reading.{each}
use Rattle.xp_file.specs.steps.Reading.{Reads}
use Rattle.xp_file.proofs.tables.each.Given as goal

abbrev pub invariant-loop-table : goal.invariant-loop-table
invariant-loop-table g l =
    (reading : _) → Reads table_view (FnReturnsAt g.F.Fn l.read) reading
    → each reading (map (λ table. table_view table.now) (take l.table-index l.tables)) ≡ Ok l.values.items
