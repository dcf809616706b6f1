use Rattle.xp_decide.proofs.Exists.{has_verdict}
use Rattle.xp_decide.proofs.laws.every_request_is_decided.Goals as goal

pub returns : goal.returns
returns g c tables states from block = has_verdict tables states from block
