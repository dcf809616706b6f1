use Rattle.std.proofs.Common.{◌-◌, length}
use Rattle.xp_step.specs.Stalls.{left_after}
use Rattle.xp_lock.specs.steps.Stalling.{with_outboxes}
use Rattle.xp_lock.proofs.Forcing.{Entering}
use Rattle.xp_lock.proofs.entering.enter.Given as goal

abbrev pub invariant-loop-slow : goal.invariant-loop-slow
invariant-loop-slow g l =
    Entering (with_outboxes l.fn.core l.fn.outboxes.items) l.fn.event l.core l.outboxes.items l.number l.given.items (left_after l.fn.event.what l.fn.core.stalls)

abbrev pub decreases-loop-slow : goal.decreases-loop-slow
decreases-loop-slow g l = l.core.subs.journal - length l.core.history
