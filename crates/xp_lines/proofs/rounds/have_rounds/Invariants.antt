use Rattle.std.proofs.Common.{◌≡◌}
use Rattle.xp_lines.proofs.rounds.have_rounds.Given as goal

abbrev pub invariant-loop-round : goal.invariant-loop-round
invariant-loop-round g l = l.lines.items ≡ l.fn.lines.items
