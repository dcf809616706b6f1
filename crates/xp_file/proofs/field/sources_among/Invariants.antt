use Rattle.std.proofs.Common.{◌≡◌, Some, take, length}
use Rattle.toml.specs.View.{items_view}
use Rattle.xp_file.specs.Reading.{each_item, source_in}
use Rattle.xp_file.proofs.field.sources_among.Given as goal

abbrev pub invariant-loop-value : goal.invariant-loop-value
invariant-loop-value l =
    (each_item source_in (items_view (take l.value-index l.values)) ≡ Some l.sources) × (length l.sources ≡ l.value-index)
