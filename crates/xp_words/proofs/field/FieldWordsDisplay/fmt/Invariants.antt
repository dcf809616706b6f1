use Rattle.std.proofs.Common.{length}
use Rattle.std.specs.Fmt.{IsPlainFormatter}
use Rattle.xp_words.proofs.FieldLemmas.{IsWrittenSoFar}
use Rattle.xp_words.proofs.field.FieldWordsDisplay.fmt.Given as goal

abbrev pub invariant-loop-facility : goal.invariant-loop-facility
invariant-loop-facility g l = IsPlainFormatter l.initial.f → IsWrittenSoFar g.W.Write.write_str_gives l.initial.f l.fn.self.0.now l.f l.rest

abbrev pub decreases-loop-facility : goal.decreases-loop-facility
decreases-loop-facility g l = length l.rest
