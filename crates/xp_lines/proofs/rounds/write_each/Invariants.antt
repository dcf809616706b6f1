use Rattle.std.proofs.Common.{◌≡◌}
use Rattle.xp_lines.proofs.rounds.write_each.Given as goal

abbrev pub invariant-loop-line : goal.invariant-loop-line
invariant-loop-line g l = l.line-items ≡ l.fn.lines.items
