use Rattle.xp_packets.proofs.BitLemmas.{bit_test}
use Rattle.xp_packets.proofs.header.has_d.Goals as goal

pub returns : goal.returns
returns c = bit_test c.args.first 6
