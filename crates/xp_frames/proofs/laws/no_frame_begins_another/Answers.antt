use Rattle.xp_frames.proofs.Frames.{same_frames}
use Rattle.xp_frames.proofs.laws.no_frame_begins_another.Goals as goal

pub returns : goal.returns
returns c packet other more rest is also = same_frames packet other more rest
