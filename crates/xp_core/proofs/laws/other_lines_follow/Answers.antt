use Rattle.xp_core.proofs.OtherStates.{others_follow}
use Rattle.xp_core.proofs.laws.other_lines_follow.Goals as goal

pub returns : goal.returns
returns g c tables history world entry next run step = others_follow tables history world entry next run step
