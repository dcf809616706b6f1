use Rattle.xp_frames.proofs.Pieces.{deframed}
use Rattle.xp_frames.proofs.laws.any_pieces.Goals as goal

pub returns : goal.returns
returns c = deframed
