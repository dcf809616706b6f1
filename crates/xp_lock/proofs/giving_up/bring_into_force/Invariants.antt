use Rattle.xp_lock.proofs.GivingUp.{GivingUp}
use Rattle.xp_lock.proofs.giving_up.bring_into_force.Given as goal

abbrev pub invariant-loop-line : goal.invariant-loop-line
invariant-loop-line g l = GivingUp l.fn.core l.fn.outboxes.items l.fn.next l.fn.moment l.fn.prepared.going.items l.core l.outboxes.items l.line-index
