use Rattle.std.proofs.Common.{◌≡◌}
use Rattle.xp_lines.proofs.rounds.have_round.Given as goal

abbrev pub invariant-loop-line : goal.invariant-loop-line
invariant-loop-line g l = l.lines.items ≡ l.fn.lines.items
