use Rattle.std.proofs.Common.{◌≡◌, ◌++◌, drop}
use Rattle.xp_subs.specs.Built.{lines_from}
use Rattle.xp_subs.proofs.build.lines.Given as goal

abbrev pub invariant-loop-entry : goal.invariant-loop-entry
invariant-loop-entry l =
    (l.lines.items ++ lines_from l.number (drop l.entry-index l.entries) ≡ lines_from 0 l.entries) × (l.number ≡ l.entry-index)
