use Rattle.xp_decide.proofs.Joined.{taken_is_free}
use Rattle.xp_decide.proofs.laws.taken_line_is_free.Goals as goal

pub returns : goal.returns
returns g c tables states from block ring sound decided = taken_is_free tables states from block ring sound decided
