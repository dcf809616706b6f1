use Rattle.std.proofs.Common.{◌∙◌, ap, sym, subst, take, drop, List, ℕ, Err}
use Rattle.std.proofs.lemmas.List.{take-append-drop}
use Rattle.std.proofs.lemmas.Result.{err_from_is_err_and, on_ok_weaker}
use Rattle.std.specs.Io.KnownBytes.{Appends}
use Rattle.xp_exchange.specs.steps.Replaying.{Took}
use Rattle.xp_exchange.specs.Splitting.{HasNoFeed}
use Rattle.xp_exchange.proofs.Lines.{no_feed_both}
use Rattle.xp_exchange.proofs.Octets.{Taken, found_at, found_none, taken_none, taken_line, taken_stops, taken_overflows, taken_rest}
use Rattle.xp_exchange.proofs.replaying.UnfinishedScript.take.Goals as goal

pub loop-end-init : goal.loop-end-init
loop-end-init g c = taken_none c.args.self.now c.args.octets.now _ c.requires.line

pub add-requires : goal.add-requires
add-requires g c = (found_at c.loop-end.rest.now c.in-Some.end c.in-Some.ensures).clean

pub returns-in_err-add-clause-took : goal.returns-in_err-add-clause-took
returns-in_err-add-clause-took g c =
    let p = err_from_is_err_and c.from_residual.result c.from_residual.ensures.1 in
    let rest = c.loop-end.rest.now in
    let end = c.in-Some.end in
    subst (λ result. (text : List ℕ) × Appends (g.W.Write.contents c.args.writer.now) (g.W.Write.contents c.loop-end.writer) text × Took c.args.self.now c.args.octets.now result c.add.new.self text)
    (sym (p.1 ∙ ap Err p.2))
    (taken_overflows c.in_err-add.field-0.0 c.args.self.now c.loop-end.self c.add.new.self c.args.octets.now rest (take end rest) (drop end rest) _ _ c.loop-end.invariant
    (sym (take-append-drop end rest)) (found_at rest end c.in-Some.ensures).clean c.in_err-add.ensures.refused c.in_err-add.ensures.kept)

pub returns-in_err-end_line-clause-took : goal.returns-in_err-end_line-clause-took
returns-in_err-end_line-clause-took g c =
    let p = err_from_is_err_and c.from_residual-in_err-end_line.result c.from_residual-in_err-end_line.ensures.1 in
    subst (λ result. (text : List ℕ) × Appends (g.W.Write.contents c.args.writer.now) (g.W.Write.contents c.end_line.new.writer) text × Took c.args.self.now c.args.octets.now result c.end_line.new.self text)
    (sym (p.1 ∙ ap Err p.2))
    (taken_stops c.in_err-end_line.field-0.0 c.args.self.now c.loop-end.self c.add.new.self c.end_line.new.self c.args.octets.now c.loop-end.rest.now c.in-Some.end _ _ _ c.loop-end.invariant
    (found_at c.loop-end.rest.now c.in-Some.end c.in-Some.ensures) c.in_ok-add.ensures.added c.in_err-end_line.ensures.ended)

pub loop-end-preserved : goal.loop-end-preserved
loop-end-preserved g c =
    subst (λ rest. Taken c.args.self.now c.args.octets.now rest c.end_line.new.self (g.W.Write.contents c.args.writer.now) (g.W.Write.contents c.end_line.new.writer)) (sym c.split_at.ensures.back)
    (taken_line c.args.self.now c.loop-end.self c.add.new.self c.end_line.new.self c.args.octets.now c.loop-end.rest.now c.in-Some.end _ _ _ c.loop-end.invariant
    (found_at c.loop-end.rest.now c.in-Some.end c.in-Some.ensures) c.in_ok-add.ensures.added c.in_ok-end_line.ensures.ended)

pub add-requires-2 : goal.add-requires-2
add-requires-2 g c = found_none c.loop-end.rest.now c.in_default.ensures

pub returns-clause-took : goal.returns-clause-took
returns-clause-took g c =
    taken_rest c.add-2.result c.args.self.now c.loop-end.self c.add-2.new.self c.args.octets.now c.loop-end.rest.now _ _ c.loop-end.invariant (found_none c.loop-end.rest.now c.in_default.ensures)
    c.add-2.ensures.added c.add-2.ensures.refused c.add-2.ensures.kept

pub returns-clause-line : goal.returns-clause-line
returns-clause-line g c =
    on_ok_weaker c.add-2.result
    (λ added. subst HasNoFeed (sym (ap (λ progress. progress.line) added)) (no_feed_both c.loop-end.self.line c.loop-end.rest.now c.loop-end.invariant.line (found_none c.loop-end.rest.now c.in_default.ensures)))
    c.add-2.ensures.added
