use Rattle.xp_exchange.proofs.Idle.{idle_more}
use Rattle.xp_exchange.proofs.streams.Streams.new.Goals as goal

pub loop-preserved : goal.loop-preserved
loop-preserved g c = idle_more _ _ _ _ c.loop.invariant c.new.ensures c.in_ok-push.ensures.items
