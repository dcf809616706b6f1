use Rattle.xp_core.proofs.States.{state_follows}
use Rattle.xp_core.proofs.laws.state_follows_the_table.Goals as goal

pub returns : goal.returns
returns g c tables history world entry next run step = state_follows tables history world entry next run step
