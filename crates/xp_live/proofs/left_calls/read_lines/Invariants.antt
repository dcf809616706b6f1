use Rattle.std.proofs.Common.{length}
use Rattle.xp_live.specs.steps.LeftCalls.{AreRead}
use Rattle.xp_live.proofs.left_calls.read_lines.Given as goal

abbrev pub invariant-loop-rest : goal.invariant-loop-rest
invariant-loop-rest l = AreRead l.text l.rest l.lines.items

abbrev pub decreases-loop-rest : goal.decreases-loop-rest
decreases-loop-rest l = length l.rest
