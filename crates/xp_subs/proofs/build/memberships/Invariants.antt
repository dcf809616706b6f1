use Rattle.std.proofs.Common.{◌≡◌, ◌++◌, length, drop}
use Rattle.xp_subs.specs.Built.{memberships_of}
use Rattle.xp_subs.proofs.build.memberships.Given as goal

abbrev pub invariant-loop-group : goal.invariant-loop-group
invariant-loop-group l =
    (l.memberships.items ++ memberships_of l.known.keys (drop l.group-index l.groups) ≡ memberships_of l.known.keys l.groups)
    × (length l.memberships.items ≡ l.group-index)
