use Rattle.xp_relay.proofs.Observations.{interrupts_are_delivered}
use Rattle.xp_relay.proofs.laws.interrupts_are_delivered.Goals as goal

pub returns : goal.returns
returns g c = interrupts_are_delivered
