use Rattle.std.proofs.Common.{◌≡◌}
use Rattle.xp_lines.proofs.rounds.stop_all.Given as goal

abbrev pub invariant-loop-offer : goal.invariant-loop-offer
invariant-loop-offer g l = l.lines.items ≡ l.fn.lines.items
