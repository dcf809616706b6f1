use Rattle.xp_packets.proofs.LawLemmas.{encodable_is_written}
use Rattle.xp_packets.proofs.laws.encodable_is_written.Goals as goal

pub returns : goal.returns
returns g c = encodable_is_written _
