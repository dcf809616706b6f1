use Rattle.xp_keeping.specs.steps.Queue.{StaysWith}
use Rattle.xp_keeping.proofs.record_queue.RecordQueue.let_go.Given as goal

abbrev pub invariant-loop-record : goal.invariant-loop-record
invariant-loop-record l = StaysWith l.fn.self l.self
