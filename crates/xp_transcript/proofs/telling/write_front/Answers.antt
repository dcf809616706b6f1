use Rattle.std.proofs.Common.{◌∙◌, ◌++◌, ℕ, List, [], Err, ap, refl, sym, subst}
use Rattle.std.proofs.lemmas.Result.{err_from_is_err_and}
use Rattle.std.specs.Io.KnownBytes.{Appends}
use Rattle.xp_writing.proofs.Bytes.{appends_nothing}
use Rattle.xp_exchange.specs.Acting.{Puts}
use Rattle.xp_transcript.specs.Transcript.{front_of}
use Rattle.xp_transcript.specs.steps.Telling.{WritesFront}
use Rattle.xp_transcript.proofs.Whole.{front_put}
use Rattle.xp_transcript.proofs.telling.write_front.Goals as goal

pub returns-in_err-push_front : goal.returns-in_err-push_front
returns-in_err-push_front g c =
    let p = err_from_is_err_and c.from_residual.result c.from_residual.ensures.1 in
    let known = g.W.Write.contents c.args.writer.now in
    subst (λ result. (text : List ℕ) × Appends known known text × WritesFront c.args.form result text) (sym (p.1 ∙ ap Err p.2)) ([], appends_nothing known, refl)

pub returns : goal.returns
returns g c =
    front_put c.args.form c.write_out.result _ _ c.push_front.new.text.items (c.in_ok-push_front.ensures.front ∙ ap (λ some. some ++ front_of c.args.form) c.new-front.ensures.items)
    (subst (λ text. Puts (g.W.Write.contents c.args.writer.now) (g.W.Write.contents c.write_out.new.writer) text c.write_out.result) c.deref.ensures.value c.write_out.ensures)
