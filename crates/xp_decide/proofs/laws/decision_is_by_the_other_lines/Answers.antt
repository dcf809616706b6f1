use Rattle.xp_decide.proofs.Seeing.{decided_by_the_others}
use Rattle.xp_decide.proofs.laws.decision_is_by_the_other_lines.Goals as goal

pub returns : goal.returns
returns g c tables states others from block verdict decided agree = decided_by_the_others tables states others from block verdict decided agree
