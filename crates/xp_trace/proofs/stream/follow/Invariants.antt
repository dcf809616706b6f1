use Rattle.std.proofs.Common.{take}
use Rattle.xp_trace.specs.Streams.{Follows}
use Rattle.xp_trace.proofs.stream.follow.Given as goal

abbrev pub invariant-loop-octet : goal.invariant-loop-octet
invariant-loop-octet l = Follows l.fn.watch (take l.octet-index l.octets) l.watch
