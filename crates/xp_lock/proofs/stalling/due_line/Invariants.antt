use Rattle.xp_lock.specs.steps.Stalling.{IsSearched}
use Rattle.xp_lock.proofs.stalling.due_line.Given as goal

abbrev pub invariant-loop-line : goal.invariant-loop-line
invariant-loop-line g l = IsSearched l.core l.fn.outboxes.items l.outboxes.items
