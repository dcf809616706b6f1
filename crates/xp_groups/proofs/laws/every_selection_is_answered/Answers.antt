use Rattle.xp_groups.proofs.Exists.{intends_some}
use Rattle.xp_groups.proofs.laws.every_selection_is_answered.Goals as goal

pub returns : goal.returns
returns c = intends_some
