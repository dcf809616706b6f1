use Rattle.std.proofs.Common.{length}
use Rattle.xp_exchange.proofs.Heard.{ReadSoFar}
use Rattle.xp_exchange.proofs.frames.read_all.Given as goal

abbrev pub invariant-loop-packet : goal.invariant-loop-packet
invariant-loop-packet g l = ReadSoFar l.arrival.modulus l.arrival.line l.arrival.moment l.fn.stream l.stream l.events.items

abbrev pub decreases-loop-packet : goal.decreases-loop-packet
decreases-loop-packet g l = length l.stream.waiting
