use Rattle.xp_decide.proofs.Refused.{refusal_known}
use Rattle.xp_decide.proofs.laws.refusals_are_known.Goals as goal

pub returns : goal.returns
returns g c tables states from block refusal decided = refusal_known tables states from block refusal decided
