use Rattle.xp_packets.proofs.LawLemmas.{written_is_read_back}
use Rattle.xp_packets.proofs.laws.written_is_read_back.Goals as goal

pub returns : goal.returns
returns g c = written_is_read_back _
