use Rattle.xp_relay.proofs.Few.{puts_out_few}
use Rattle.xp_relay.proofs.laws.a_turn_puts_out_few.Goals as goal

pub returns : goal.returns
returns g c = puts_out_few
