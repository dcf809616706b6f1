use Rattle.std.proofs.Common.{length}
use Rattle.xp_exchange.proofs.SoFar.{SoFar}
use Rattle.xp_exchange.proofs.acting.act_on_all.Given as goal

abbrev pub invariant-loop-event : goal.invariant-loop-event
invariant-loop-event g l = SoFar l.fn.core l.fn.events.items l.events.items l.core (g.W.Write.contents l.fn.writer) (g.W.Write.contents l.writer)

abbrev pub decreases-loop-event : goal.decreases-loop-event
decreases-loop-event g l = length l.events.items
