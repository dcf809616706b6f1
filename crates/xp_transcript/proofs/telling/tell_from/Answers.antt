use Rattle.std.proofs.Common.{◌∙◌, ℕ, List, Ok, Err, ap, inl, refl, sym, subst}
use Rattle.std.proofs.lemmas.Result.{err_from_is_err_and}
use Rattle.std.specs.Io.KnownBytes.{Appends}
use Rattle.xp_writing.proofs.Bytes.{keeps_itself}
use Rattle.xp_transcript.specs.Telling.{TranscribesFrom}
use Rattle.xp_transcript.proofs.Whole.{handed, transcribed, untold}
use Rattle.xp_transcript.proofs.telling.tell_from.Goals as goal

pub returns-in_err-write_front : goal.returns-in_err-write_front
returns-in_err-write_front g c =
    let p = err_from_is_err_and c.from_residual.result c.from_residual.ensures.1 in
    let before = g.W.Write.contents c.args.writer.now in
    let after = g.W.Write.contents c.write_front.new.writer in
    let fault = c.in_err-write_front.field-0.0 in
    subst (λ result. (text : List ℕ) × Appends before after text × TranscribesFrom c.args.form c.args.transcript.now c.args.script.now result text)
    (sym (p.1 ∙ ap Err p.2))
    (untold c.args.form c.args.transcript.now c.args.script.now fault before after c.in_err-write_front.ensures)

pub returns-in_err-tell_script : goal.returns-in_err-tell_script
returns-in_err-tell_script g c =
    let p = err_from_is_err_and c.from_residual-in_err-tell_script.result c.from_residual-in_err-tell_script.ensures.1 in
    let before = g.W.Write.contents c.args.writer.now in
    let begun = g.W.Write.contents c.write_front.new.writer in
    let after = g.W.Write.contents c.tell_script.new.writer in
    let fault = c.in_err-tell_script.field-0.0 in
    let front = c.in_ok-write_front.ensures in
    subst (λ result. (text : List ℕ) × Appends before after text × TranscribesFrom c.args.form c.args.transcript.now c.args.script.now result text)
    (sym (p.1 ∙ ap Err p.2))
    (transcribed c.args.form c.args.transcript.now c.args.script.now (Err fault) (Err fault) before begun after after front.0 front.2 front.1 c.in_err-tell_script.ensures (keeps_itself after) (inl refl))

pub returns : goal.returns
returns g c =
    let before = g.W.Write.contents c.args.writer.now in
    let begun = g.W.Write.contents c.write_front.new.writer in
    let after = g.W.Write.contents c.tell_script.new.writer in
    let last = g.W.Write.contents c.hand_on.new.writer in
    let front = c.in_ok-write_front.ensures in
    transcribed c.args.form c.args.transcript.now c.args.script.now (Ok tt) c.hand_on.result before begun after last front.0 front.2 front.1 c.in_ok-tell_script.ensures
    c.hand_on.ensures.same (handed (Ok tt) c.hand_on.result refl c.hand_on.ensures.refused)
