use Rattle.std.proofs.Common.{ℕ, List, ◌∙◌, ap, sym, subst, Err}
use Rattle.std.proofs.lemmas.Result.{err_from_is_err_and}
use Rattle.std.specs.Io.KnownBytes.{Appends}
use Rattle.xp_transcript.specs.Telling.{TellsScript}
use Rattle.xp_transcript.proofs.TellLines.{last_line, line_more, line_stops, no_lines}
use Rattle.xp_transcript.proofs.transcript.Transcript.tell_script.Goals as goal

pub loop-line-init : goal.loop-line-init
loop-line-init g c = no_lines _ _ _

pub returns-in_err-tell_line : goal.returns-in_err-tell_line
returns-in_err-tell_line g c =
    let p = err_from_is_err_and c.from_residual.result c.from_residual.ensures.1 in
    subst (λ result. (text : List ℕ) × Appends (g.W.Write.contents c.args.writer.now) (g.W.Write.contents c.tell_line.new.writer) text × TellsScript c.args.self.now c.args.script.now result text)
    (sym (p.1 ∙ ap Err p.2))
    (line_stops c.args.self.now c.args.script.now _ _ _ _ c.tell_line.new.self _ _ _ _ c.in_err-tell_line.field-0.0 c.loop-line.invariant c.in-Some.ensures.lines c.in_err-tell_line.ensures)

pub loop-line-preserved : goal.loop-line-preserved
loop-line-preserved g c = line_more _ _ _ _ _ _ _ _ _ _ _ c.loop-line.invariant c.in-Some.ensures.lines c.in-Some.ensures.shorter c.in_ok-tell_line.ensures

pub returns : goal.returns
returns g c = last_line _ _ _ _ _ _ _ _ _ _ c.loop-line.invariant c.in_default.ensures.lines c.tell_line-2.ensures
