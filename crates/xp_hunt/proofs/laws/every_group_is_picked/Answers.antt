use Rattle.xp_hunt.proofs.Exists.{picked_some}
use Rattle.xp_hunt.proofs.laws.every_group_is_picked.Goals as goal

pub returns : goal.returns
returns c = picked_some
