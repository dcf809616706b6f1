use Rattle.xp_lines.specs.Sessions.{Drops}
use Rattle.xp_lines.proofs.line.drain.Given as goal

abbrev pub invariant-loop-output : goal.invariant-loop-output
invariant-loop-output g l = Drops l.fn.seat.pass l.seat.pass
