use Rattle.xp_keeping.specs.steps.Queue.{StaysWith}
use Rattle.xp_keeping.proofs.record_queue.RecordQueue.send.Given as goal

abbrev pub invariant-loop-place : goal.invariant-loop-place
invariant-loop-place g l = StaysWith l.fn.self l.self
