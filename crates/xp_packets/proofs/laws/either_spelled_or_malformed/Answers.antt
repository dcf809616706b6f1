use Rattle.xp_packets.proofs.LawLemmas.{either_spelled_or_malformed}
use Rattle.xp_packets.proofs.laws.either_spelled_or_malformed.Goals as goal

pub returns : goal.returns
returns g c = either_spelled_or_malformed _
