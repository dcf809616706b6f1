use Rattle.std.proofs.Common.{◌≡◌, ◌++◌, map, take}
use Rattle.xp_cdr.specs.Ended.{ended_as}
use Rattle.xp_keeping.specs.steps.Queued.{GoesOnBeside}
use Rattle.xp_keeping.proofs.queued.QueuedKeeper.hand_over.Given as goal

abbrev pub invariant-loop-ended : goal.invariant-loop-ended
invariant-loop-ended g l =
    (l.self.given ≡ l.fn.self.given ++ map (ended_as l.fn.self.subs l.fn.self.ended_by) (take l.ended-index l.records)) × GoesOnBeside l.fn.self l.self
