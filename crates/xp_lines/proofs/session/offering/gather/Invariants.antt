use Rattle.std.proofs.Common.{length}
use Rattle.xp_lines.proofs.Offered.{ReadSoFar}
use Rattle.xp_lines.proofs.session.offering.gather.Given as goal

abbrev pub invariant-packets : goal.invariant-packets
invariant-packets g l = ReadSoFar l.modulus l.fn.frames l.ready.items l.frames

abbrev pub decreases-packets : goal.decreases-packets
decreases-packets g l = length l.frames.waiting
