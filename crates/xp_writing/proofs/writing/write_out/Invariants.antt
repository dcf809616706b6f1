use Rattle.xp_writing.proofs.Bytes.{PutSoFar}
use Rattle.xp_writing.proofs.writing.write_out.Given as goal

abbrev pub invariant-loop : goal.invariant-loop
invariant-loop g l = PutSoFar l.fn.text l.rest (g.W.Write.contents l.fn.writer) (g.W.Write.contents l.writer)
