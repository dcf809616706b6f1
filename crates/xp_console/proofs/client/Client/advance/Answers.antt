-- What a step answers stands behind what was answered before.
use Rattle.std.proofs.Common.{◌∙◌, refl}
use Rattle.xp_console.proofs.Answered.{answered_then, none_answered}
use Rattle.xp_console.proofs.client.Client.advance.Goals as goal

pub loop-move-init : goal.loop-move-init
loop-move-init g c = record { ends = refl; answered = none_answered _ _ }

pub loop-move-preserved : goal.loop-move-preserved
loop-move-preserved g c = record {
  ends = c.step.ensures.ends ∙ c.loop-move.invariant.ends;
  answered = answered_then _ _ _ _ c.loop-move.invariant.answered c.step.ensures.answered;
}

pub returns-in-Ok-false-clause-answered : goal.returns-in-Ok-false-clause-answered
returns-in-Ok-false-clause-answered g c = answered_then _ _ _ _ c.loop-move.invariant.answered c.step.ensures.answered

pub returns-in-Err-clause-answered : goal.returns-in-Err-clause-answered
returns-in-Err-clause-answered g c = answered_then _ _ _ _ c.loop-move.invariant.answered c.step.ensures.answered
