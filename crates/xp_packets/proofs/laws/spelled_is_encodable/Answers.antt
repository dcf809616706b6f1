use Rattle.xp_packets.proofs.LawLemmas.{spelled_is_encodable}
use Rattle.xp_packets.proofs.laws.spelled_is_encodable.Goals as goal

pub returns : goal.returns
returns g c = spelled_is_encodable _
