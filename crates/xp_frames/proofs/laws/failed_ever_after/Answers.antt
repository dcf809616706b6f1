use Rattle.xp_frames.proofs.Pieces.{failed_after}
use Rattle.xp_frames.proofs.laws.failed_ever_after.Goals as goal

pub returns : goal.returns
returns c = failed_after
