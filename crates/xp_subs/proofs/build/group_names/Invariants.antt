use Rattle.std.proofs.Common.{◌≡◌, ◌≤◌, ◌*◌, [], length, drop}
use Rattle.xp_subs.specs.Built.{mentions}
use Rattle.xp_subs.proofs.build.group_names.Given as goal

abbrev pub invariant-loop-entry : goal.invariant-loop-entry
invariant-loop-entry l =
    (mentions l.known.keys (drop l.entry-index l.entries) ≡ mentions [] l.entries) × (length l.known.keys ≤ 64 * l.entry-index)
