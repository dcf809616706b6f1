use Rattle.std.proofs.Common.{◌≡◌, ◌++◌, drop}
use Rattle.xp_subs.specs.Built.{lines_of}
use Rattle.xp_subs.proofs.build.push_lines.Given as goal

abbrev pub invariant-loop-entry : goal.invariant-loop-entry
invariant-loop-entry l =
    l.lines.items ++ lines_of l.station (drop l.entry-index l.entries) ≡ l.initial.lines.items ++ lines_of l.station l.entries
