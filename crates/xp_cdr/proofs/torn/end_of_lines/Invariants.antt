use Rattle.std.proofs.Common.{◌≤◌}
use Rattle.xp_cdr.proofs.torn.end_of_lines.Given as goal

abbrev pub invariant-loop-end : goal.invariant-loop-end
invariant-loop-end l = l.end ≤ l.fn.length

abbrev pub decreases-loop-end : goal.decreases-loop-end
decreases-loop-end l = l.end
