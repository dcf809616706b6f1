use Rattle.std.proofs.Common.{◌≡◌}
use Rattle.xp_lock.proofs.outboxes.look_at.Given as goal

abbrev pub invariant-loop : goal.invariant-loop
invariant-loop g l = l.end ≡ record l.fn.end { free = l.end.free }
