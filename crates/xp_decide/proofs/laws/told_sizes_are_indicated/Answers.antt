use Rattle.xp_decide.proofs.Written.{told_sizes}
use Rattle.xp_decide.proofs.laws.told_sizes_are_indicated.Goals as goal

pub returns : goal.returns
returns g c tables states from block ring decided = told_sizes tables states from block ring decided
