use Rattle.xp_lock.specs.steps.Opening.{AreNew}
use Rattle.xp_lock.proofs.prepared.new_outboxes.Given as goal

abbrev pub invariant-loop-line : goal.invariant-loop-line
invariant-loop-line g l = AreNew l._line l.outboxes.items l.ends.items
