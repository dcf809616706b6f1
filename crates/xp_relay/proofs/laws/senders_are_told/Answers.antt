use Rattle.xp_relay.proofs.Observations.{senders_are_told}
use Rattle.xp_relay.proofs.laws.senders_are_told.Goals as goal

pub returns : goal.returns
returns g c = senders_are_told
