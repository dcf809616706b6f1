use Rattle.std.proofs.Common.{length}
use Rattle.xp_transcript.proofs.TellLines.{LinesSoFar}
use Rattle.xp_transcript.proofs.transcript.Transcript.tell_script.Given as goal

abbrev pub invariant-loop-line : goal.invariant-loop-line
invariant-loop-line g l = LinesSoFar l.fn.self l.script l.rest l.self l.number (g.W.Write.contents l.fn.writer) (g.W.Write.contents l.writer)

abbrev pub decreases-loop-line : goal.decreases-loop-line
decreases-loop-line g l = length l.rest
