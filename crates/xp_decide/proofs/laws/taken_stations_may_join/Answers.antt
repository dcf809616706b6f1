use Rattle.xp_decide.proofs.Joined.{taken_may_join}
use Rattle.xp_decide.proofs.laws.taken_stations_may_join.Goals as goal

pub returns : goal.returns
returns g c tables states from block ring sound decided = taken_may_join tables states from block ring sound decided
