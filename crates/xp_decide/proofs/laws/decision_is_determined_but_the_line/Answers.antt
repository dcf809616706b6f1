use Rattle.xp_decide.proofs.Once.{decided_same}
use Rattle.xp_decide.proofs.laws.decision_is_determined_but_the_line.Goals as goal

pub returns : goal.returns
returns g c tables states from block one other first second = decided_same tables states from block one other first second
