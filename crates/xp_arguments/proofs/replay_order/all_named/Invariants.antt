use Rattle.std.proofs.Common.{map, take}
use Rattle.xp_arguments.specs.NamedPaths.{AreNamed}
use Rattle.xp_arguments.proofs.replay_order.all_named.Given as goal

abbrev pub invariant-loop-text : goal.invariant-loop-text
invariant-loop-text l = AreNamed (map (λ text. text.now) (take l.text-index l.texts)) l.tables.items
