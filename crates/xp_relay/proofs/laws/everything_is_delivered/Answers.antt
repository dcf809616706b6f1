use Rattle.xp_relay.proofs.Observations.{everything_is_delivered}
use Rattle.xp_relay.proofs.laws.everything_is_delivered.Goals as goal

pub returns : goal.returns
returns g c = everything_is_delivered
