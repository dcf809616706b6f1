use Rattle.std.proofs.Common.{arith}
use Rattle.xp_packets.proofs.LawLemmas.{decodes, decodes_fit, decodes_long}
use Rattle.xp_packets.proofs.reading.decode.Goals as goal

pub returns-clause-decoded : goal.returns-clause-decoded
returns-clause-decoded g c = decodes _ c.args.modulus c.args.octets.now c.packet_of.result (λ i. omega (arith, c.type_inv.octets i)) c.packet_of.ensures

pub returns-clause-fit : goal.returns-clause-fit
returns-clause-fit g c = decodes_fit _ c.args.modulus c.args.octets.now c.packet_of.result (λ i. omega (arith, c.type_inv.octets i)) c.packet_of.ensures

pub returns-clause-either : goal.returns-clause-either
returns-clause-either g c = decodes_long _ c.args.modulus c.args.octets.now c.packet_of.result (λ i. omega (arith, c.type_inv.octets i)) c.packet_of.ensures
