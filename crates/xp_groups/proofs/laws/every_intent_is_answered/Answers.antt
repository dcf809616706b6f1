use Rattle.xp_groups.proofs.Exists.{admits_some}
use Rattle.xp_groups.proofs.laws.every_intent_is_answered.Goals as goal

pub returns : goal.returns
returns c = admits_some
