use Rattle.std.proofs.Common.{length}
use Rattle.xp_door.proofs.calls.CallNotes.receive.Given as goal

abbrev pub decreases-loop-rest : goal.decreases-loop-rest
decreases-loop-rest l = length l.rest
