use Rattle.xp_core.specs.steps.Reload.{IsIdle}
use Rattle.xp_core.proofs.reload.line_moved_in_call.Given as goal

abbrev pub invariant-loop-number : goal.invariant-loop-number
invariant-loop-number g l = IsIdle l.force l.machine l.next l.number
