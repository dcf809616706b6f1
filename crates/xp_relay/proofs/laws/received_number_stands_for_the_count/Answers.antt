use Rattle.xp_relay.proofs.Bounds.{stands_for_the_count}
use Rattle.xp_relay.proofs.laws.received_number_stands_for_the_count.Goals as goal

pub returns : goal.returns
returns g c = stands_for_the_count
