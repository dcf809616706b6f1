use Rattle.xp_core.specs.steps.Reload.{NoneGoes}
use Rattle.xp_core.proofs.reload.first_going.Given as goal

abbrev pub invariant-loop-number : goal.invariant-loop-number
invariant-loop-number g l = NoneGoes l.force l.machine l.next l.number
