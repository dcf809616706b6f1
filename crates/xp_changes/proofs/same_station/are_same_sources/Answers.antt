use Rattle.std.proofs.lemmas.Slice.Eq.{bytes_eq-Decides, slice_eq-Decides}
use Rattle.xp_changes.proofs.same_station.are_same_sources.Goals as goal

pub returns : goal.returns
returns c = slice_eq-Decides bytes_eq-Decides _ _ _ c.eq.ensures
