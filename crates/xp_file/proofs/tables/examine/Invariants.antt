use Rattle.std.proofs.Common.{◌≡◌, map, drop}
use Rattle.std.specs.Fn.{FnReturnsAt}
use Rattle.toml.specs.View.{table_view}
use Rattle.xp_file.specs.Reading.{examined}
use Rattle.xp_file.specs.steps.Reading.{Reads}
use Rattle.xp_file.proofs.tables.examine.Given as goal

abbrev pub invariant-loop-table : goal.invariant-loop-table
invariant-loop-table g l =
    (reading : _) → Reads table_view (FnReturnsAt g.F.Fn l.read) reading
    → examined reading (map (λ table. table_view table.now) (drop l.table-index l.tables))
    ≡ examined reading (map (λ table. table_view table.now) l.tables)
