use Rattle.std.proofs.Common.{◌++◌, ◌∙◌, ℕ, List, ap, codes, subst}
use Rattle.std.specs.Fmt.{HasWritten, decimal}
use Rattle.xp_charge.specs.Duration.{seconds_of}
use Rattle.xp_transcript.specs.Words.{payer_words, segment_words}
use Rattle.xp_transcript.proofs.Pieces.{pieces7}
use Rattle.xp_transcript.proofs.record_words.ChargeWordsDisplay.fmt.Goals as goal

pub returns-clause-writes : goal.returns-clause-writes
returns-clause-writes g c = λ plain ok.
    let ended = c.args.self.now.0.now in
    let segments : List ℕ = segment_words ended.from_caller ended.from_called in
    let told : List ℕ → ℕ → List ℕ = λ payer seconds.
    codes "the " ++ (payer ++ (codes " pays, " ++ (segments ++ (codes ", connected for " ++ (decimal seconds ++ codes " s"))))) in
    subst (λ text. HasWritten {W = g.row.W.Denot} g.W.Write.write_str_gives c.args.f.now text c.write.new.self)
    (ap (λ payer. told payer c.seconds-seconds.result) c.payer_words-payer.ensures
    ∙ ap (told (payer_words ended.payer)) c.seconds-seconds.ensures
    ∙ pieces7 (codes "the ") (payer_words ended.payer) (codes " pays, ") segments (codes ", connected for ") (decimal (seconds_of ended)) (codes " s"))
    (c.write.ensures.writes plain ok)
