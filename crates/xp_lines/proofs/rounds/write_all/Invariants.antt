use Rattle.std.proofs.Common.{◌≡◌}
use Rattle.xp_lines.proofs.rounds.write_all.Given as goal

abbrev pub invariant-loop-write : goal.invariant-loop-write
invariant-loop-write g l = l.lines.items ≡ l.fn.lines.items
