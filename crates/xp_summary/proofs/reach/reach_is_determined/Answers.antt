use Rattle.xp_summary.proofs.Reaching.{reach_determined}
use Rattle.xp_summary.proofs.reach.reach_is_determined.Goals as goal

pub returns : goal.returns
returns c = reach_determined
