use Rattle.std.proofs.Common.{◌≡◌}
use Rattle.xp_keeping.proofs.record_thread.keep_records.Given as goal

abbrev pub invariant-loop : goal.invariant-loop
invariant-loop g l =
    (goal.iterator-loop g).can_next l.iterator' × (goal.iterator-loop g).is_finite l.iterator'
    × (g.K.CallKeeper.given l.keeper ≡ l.records.taken)
    × (l.records.queue ≡ l.fn.records.queue) × g.K.CallKeeper.keeps l.fn.keeper l.keeper
