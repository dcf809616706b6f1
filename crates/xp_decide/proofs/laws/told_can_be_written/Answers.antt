use Rattle.xp_decide.proofs.Written.{told_can_be_written}
use Rattle.xp_decide.proofs.laws.told_can_be_written.Goals as goal

pub returns : goal.returns
returns g c tables states from block ring sound few decided = told_can_be_written tables states from block sound few ring decided
