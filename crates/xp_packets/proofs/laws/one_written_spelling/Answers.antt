use Rattle.xp_packets.proofs.LawLemmas.{one_written_spelling}
use Rattle.xp_packets.proofs.laws.one_written_spelling.Goals as goal

pub returns : goal.returns
returns g c = one_written_spelling _
