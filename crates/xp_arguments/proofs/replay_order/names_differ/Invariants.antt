use Rattle.std.proofs.Common.{◌≡◌, drop}
use Rattle.xp_arguments.specs.NamedPaths.{has_each_name_once}
use Rattle.xp_arguments.proofs.replay_order.names_differ.Given as goal

abbrev pub invariant-loop-place : goal.invariant-loop-place
invariant-loop-place l = has_each_name_once (drop l.place l.tables) ≡ has_each_name_once l.tables
