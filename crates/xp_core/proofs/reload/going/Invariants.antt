use Rattle.xp_core.specs.steps.Reload.{AreGoingBelow}
use Rattle.xp_core.proofs.reload.going.Given as goal

abbrev pub invariant-loop-number : goal.invariant-loop-number
invariant-loop-number g l = AreGoingBelow l.force l.machine l.next l.number l.lines.items
