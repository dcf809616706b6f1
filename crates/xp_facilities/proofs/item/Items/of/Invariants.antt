use Rattle.std.proofs.Common.{length}
use Rattle.xp_facilities.proofs.Reading.{Walk}
use Rattle.xp_facilities.proofs.item.Items.of.Given as goal

abbrev pub invariant-loop-rest : goal.invariant-loop-rest
invariant-loop-rest l = Walk l.field l.rest

abbrev pub decreases-loop-rest : goal.decreases-loop-rest
decreases-loop-rest l = length l.rest
