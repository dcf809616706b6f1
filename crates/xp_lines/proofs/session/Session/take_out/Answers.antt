use Rattle.std.proofs.Common.{◌∙◌, ◌++◌, ◌==◌, ap, cond, refl, sym}
use Rattle.xp_lines.specs.AnswerTimer.{since_after_put}
use Rattle.xp_lines.specs.Wire.{carried, closes}
use Rattle.xp_lines.proofs.Written.{filled_closed, filled_lost, filled_more, filled_nothing, filled_out}
use Rattle.xp_lines.proofs.session.Session.take_out.Goals as goal

pub loop-output-init : goal.loop-output-init
loop-output-init g c = record { filled = filled_nothing _ _ _ _ _ _; link = refl; kept = (refl, refl, refl) }

pub returns-in_default-clause-taken : goal.returns-in_default-clause-taken
returns-in_default-clause-taken g c = filled_out _ _ _ _ _ _ _ _ _ _ _ c.loop-output.invariant.filled c.in_default.ensures.none

pub returns-in-Ok-true-clause-taken : goal.returns-in-Ok-true-clause-taken
returns-in-Ok-true-clause-taken g c =
    let put = c.in-Ok-true.ensures in
    let here = c.loop-output.invariant.kept.0 in
    let was = c.loop-output.self in
    let item = c.in-Some.item in
    filled_closed _ _ _ _ _ _ _ _ _ _ _ _ _ _ c.loop-output.invariant.filled c.loop-output-test.true c.in-Some.ensures.item
    (put.ok ∙ ap (λ n. was.unwritten.items ++ carried c.args.modulus n item) here)
    (put.since ∙ ap (λ n. cond (item.connection == n) (since_after_put c.args.now was.unanswered_since item.put) was.unanswered_since) here)

pub returns-in-Err-clause-taken : goal.returns-in-Err-clause-taken
returns-in-Err-clause-taken g c = filled_lost _ _ _ _ _ _ _ _ _ _ _ _ _ _ c.loop-output.invariant.filled c.loop-output-test.true c.in-Some.ensures.item c.in-Err.ensures.err

pub returns-clause-taken : goal.returns-clause-taken
returns-clause-taken g c = filled_out _ _ _ _ _ _ _ _ _ _ _ c.loop-output.invariant.filled refl

pub loop-output-preserved : goal.loop-output-preserved
loop-output-preserved g c =
    let put = c.in-Ok-false.ensures in
    let here = c.loop-output.invariant.kept.0 in
    let was = c.loop-output.self in
    let item = c.in-Some.item in
    let kept = c.loop-output.invariant.kept in
    record {
      filled =
          filled_more _ _ _ _ _ _ _ _ _ _ _ _ _ _ c.loop-output.invariant.filled c.loop-output-test.true c.in-Some.ensures.item
          (put.ok ∙ ap (λ n. was.unwritten.items ++ carried c.args.modulus n item) here)
          (put.since ∙ ap (λ n. cond (item.connection == n) (since_after_put c.args.now was.unanswered_since item.put) was.unanswered_since) here)
          (ap (λ n. closes n item) (sym here) ∙ sym put.closes ∙ c.in-Ok-false.field-0-test);
      link = put.link ∙ c.loop-output.invariant.link;
      kept = (put.kept.0 ∙ kept.0, put.kept.1 ∙ kept.1, put.kept.2 ∙ kept.2);
    }
