use Rattle.std.proofs.Common.{◌≡◌, Some, length, map, take}
use Rattle.toml.specs.View.{table_view, items_view}
use Rattle.xp_file.specs.Reading.{tables_among}
use Rattle.xp_file.proofs.tables.tables_among.Given as goal

abbrev pub invariant-loop-value : goal.invariant-loop-value
invariant-loop-value l =
    (tables_among (items_view (take l.value-index l.values)) ≡ Some (map (λ table. table_view table.now) l.tables.items))
    × (length l.tables.items ≡ l.value-index)
