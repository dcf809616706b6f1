use Rattle.std.proofs.Common.{◌≡◌}
use Rattle.toml.specs.View.{members_view, table_view}
use Rattle.xp_file.specs.Reading.{has_only}
use Rattle.xp_file.proofs.field.has_only.Given as goal

abbrev pub invariant-loop-key : goal.invariant-loop-key
invariant-loop-key l = has_only l.listed (members_view l.key-iterator) ≡ has_only l.listed (table_view l.table)
