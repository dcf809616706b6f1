use Rattle.std.proofs.Common.{◌≡◌, None, rules}
use Rattle.xp_packets.specs.Encodability.{encoding_fault}
use Rattle.xp_packets.proofs.FitnessLemmas.{written_fits}
use Rattle.xp_packets.proofs.writing.write_packet.Goals as goal

pub returns-clause-written : goal.returns-clause-written
returns-clause-written g c =
    let fit : encoding_fault c.args.modulus c.args.identifier c.args.packet.now ≡ None = search rules in
    (fit, written_fits _ c.args.modulus c.args.identifier c.args.packet.now c.in_ok-push_packet.ensures.addressed fit)
