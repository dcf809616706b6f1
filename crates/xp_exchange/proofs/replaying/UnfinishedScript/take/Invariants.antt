use Rattle.std.proofs.Common.{length}
use Rattle.xp_exchange.proofs.Octets.{Taken}
use Rattle.xp_exchange.proofs.replaying.UnfinishedScript.take.Given as goal

abbrev pub invariant-loop-end : goal.invariant-loop-end
invariant-loop-end g l = Taken l.fn.self l.octets l.rest l.self (g.W.Write.contents l.fn.writer) (g.W.Write.contents l.writer)

abbrev pub decreases-loop-end : goal.decreases-loop-end
decreases-loop-end g l = length l.rest
