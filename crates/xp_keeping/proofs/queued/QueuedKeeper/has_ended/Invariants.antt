use Rattle.std.proofs.Common.{◌≡◌}
use Rattle.xp_keeping.specs.steps.Queued.{GoesOnBeside}
use Rattle.xp_keeping.proofs.queued.QueuedKeeper.has_ended.Given as goal

abbrev pub invariant-loop : goal.invariant-loop
invariant-loop g l =
    (goal.iterator-loop g).can_next l.iterator' × (goal.iterator-loop g).is_finite l.iterator'
    × (l.self.given ≡ l.fn.self.given) × GoesOnBeside l.fn.self l.self
