use Rattle.std.proofs.Common.{◌∙◌}
use Rattle.xp_lines.proofs.Serving.{so_ended}
use Rattle.xp_lines.proofs.Sessions.{on_more}
use Rattle.xp_lines.proofs.served_line.next_state.Goals as goal

pub returns-in-None : goal.returns-in-None
returns-in-None g c = λ first so. (c.have_turn-step.ensures.line ∙ so.0, (on_more _ _ _ _ _ _ _ _ so.1 c.have_turn-step.ensures.steps).1 c.in-None.is)

pub returns-after-eq : goal.returns-after-eq
returns-after-eq g c = λ first so. so_ended _ _ _ first _ _ _ _ (c.have_turn-step.ensures.line ∙ so.0) (on_more _ _ _ _ _ _ _ _ so.1 c.have_turn-step.ensures.steps).0 c.close-why.ensures.closes c.close-why.ensures.line
