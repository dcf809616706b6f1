-- What a turn answers stands behind what was answered before.
use Rattle.std.proofs.Common.{◌∙◌, refl}
use Rattle.xp_console.proofs.Answered.{answered_then, none_answered}
use Rattle.xp_console.proofs.console.Console.run.Goals as goal

pub loop-turn-init : goal.loop-turn-init
loop-turn-init g c = record { answered = none_answered _ _; same = refl }

pub loop-turn-preserved : goal.loop-turn-preserved
loop-turn-preserved g c = record {
  answered = answered_then _ _ _ _ c.loop-turn.invariant.answered c.turn.ensures.answered;
  same = c.turn.ensures.same ∙ c.loop-turn.invariant.same;
}

pub returns-in_err-turn-clause-answered : goal.returns-in_err-turn-clause-answered
returns-in_err-turn-clause-answered g c = answered_then _ _ _ _ c.loop-turn.invariant.answered c.turn.ensures.answered
