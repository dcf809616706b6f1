use Rattle.xp_answer.proofs.Informing.{information_told}
use Rattle.xp_answer.proofs.laws.information_is_told.Goals as goal

pub returns : goal.returns
returns g c = information_told _
