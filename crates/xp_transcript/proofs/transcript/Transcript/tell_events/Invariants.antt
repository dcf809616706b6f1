use Rattle.std.proofs.Common.{length}
use Rattle.xp_transcript.proofs.Told.{SoFar}
use Rattle.xp_transcript.proofs.transcript.Transcript.tell_events.Given as goal

abbrev pub invariant-loop-event : goal.invariant-loop-event
invariant-loop-event g l = SoFar l.fn.self l.fn.events.items l.events.items l.self (g.W.Write.contents l.fn.writer) (g.W.Write.contents l.writer)

abbrev pub decreases-loop-event : goal.decreases-loop-event
decreases-loop-event g l = length l.events.items
