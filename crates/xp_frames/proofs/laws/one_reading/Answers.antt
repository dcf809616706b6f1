use Rattle.std.proofs.Common.{sym, ◌∙◌}
use Rattle.xp_frames.proofs.Frames.{read_alike}
use Rattle.xp_frames.proofs.laws.one_reading.Goals as goal

pub returns : goal.returns
returns c octets packets others rest left one two =
    read_alike packets others rest left one.each two.each one.partial two.partial (sym one.whole ∙ two.whole)
