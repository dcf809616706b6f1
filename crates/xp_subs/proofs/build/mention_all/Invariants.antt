use Rattle.std.proofs.Common.{◌≡◌, ◌≤◌, ◌+◌, fold, length, drop}
use Rattle.xp_subs.specs.Built.{mention, group_names}
use Rattle.xp_subs.proofs.build.mention_all.Given as goal

abbrev pub invariant-loop-group : goal.invariant-loop-group
invariant-loop-group l =
    (fold mention l.known.keys (group_names (drop l.group-index l.groups)) ≡ fold mention l.initial.known.keys (group_names l.groups))
    × (length l.known.keys ≤ length l.initial.known.keys + l.group-index)
