use Rattle.xp_packets.proofs.LawLemmas.{encodable_by_both}
use Rattle.xp_packets.proofs.laws.encodable_by_both.Goals as goal

pub returns : goal.returns
returns g c = encodable_by_both _
