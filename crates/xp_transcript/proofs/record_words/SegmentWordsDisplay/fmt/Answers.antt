use Rattle.std.proofs.Common.{◌++◌, ◌∙◌, ap, codes, subst}
use Rattle.std.specs.Fmt.{HasWritten, decimal}
use Rattle.xp_transcript.specs.Words.{segment_noun}
use Rattle.xp_transcript.proofs.Pieces.{pieces6}
use Rattle.xp_transcript.proofs.record_words.SegmentWordsDisplay.fmt.Goals as goal

pub returns-clause-writes : goal.returns-clause-writes
returns-clause-writes g c = λ plain ok.
    let words = c.args.self.now in
    subst (λ text. HasWritten {W = g.row.W.Denot} g.W.Write.write_str_gives c.args.f.now text c.write.new.self)
    (ap (λ noun. decimal words.from_caller ++ (codes " " ++ (noun ++ (codes " from the caller, " ++ (decimal words.from_called ++ codes " from the called line"))))) c.segment_noun-segments.ensures
    ∙ pieces6 (decimal words.from_caller) (codes " ") (segment_noun words.from_caller) (codes " from the caller, ") (decimal words.from_called) (codes " from the called line"))
    (c.write.ensures.writes plain ok)
