use Rattle.std.proofs.Common.{◌≡◌}
use Rattle.xp_lines.proofs.seat.Seat.ring_for_others.Given as goal

abbrev pub invariant-loop-given : goal.invariant-loop-given
invariant-loop-given g l = l.self.pass ≡ l.fn.self.pass
