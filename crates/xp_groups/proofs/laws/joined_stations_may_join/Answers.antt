use Rattle.xp_groups.proofs.Joined.{may_join}
use Rattle.xp_groups.proofs.laws.joined_stations_may_join.Goals as goal

pub returns : goal.returns
returns c = may_join
