use Rattle.xp_relay.proofs.Encodable.{puts_out_encodable}
use Rattle.xp_relay.proofs.laws.every_packet_put_out_can_be_encoded.Goals as goal

pub returns : goal.returns
returns g c = puts_out_encodable
