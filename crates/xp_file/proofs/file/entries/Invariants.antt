use Rattle.std.proofs.Common.{◌≡◌, Ok, All, length, map, take}
use Rattle.toml.specs.View.{table_view}
use Rattle.xp_file.specs.Entries.{IsStationEntry}
use Rattle.xp_file.specs.SubscriptionFile.{entry_of}
use Rattle.xp_file.specs.Reading.{each}
use Rattle.xp_file.proofs.file.entries.Given as goal

abbrev pub invariant-loop-table : goal.invariant-loop-table
invariant-loop-table l =
    (each entry_of (map (λ table. table_view table.now) (take l.table-index l.tables)) ≡ Ok l.entries.items)
    × (length l.entries.items ≡ l.table-index)
    × All IsStationEntry l.entries.items
