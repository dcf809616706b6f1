use Rattle.std.proofs.Common.{◌≡◌, ◌<◌, ◌/◌, ◌%◌, arith}
use Rattle.xp_packets.proofs.BitLemmas.{heading_bits}
use Rattle.xp_packets.proofs.header.push_heading.Goals as goal

pub returns : goal.returns
returns g c =
    let below : c.args.identifier / 256 < 16 = omega (arith, c.requires) in
    let whole : c.args.identifier / 256 % 256 ≡ c.args.identifier / 256 = omega (arith, c.requires) in
    let first = heading_bits c.args.modulus c.args.q c.args.d (c.args.identifier / 256) below in
    rw (c.to_be_bytes.ensures, c.flagged.ensures, c.flagged-2.ensures, c.modulus_bits.ensures, whole, first) at c.push_octets.ensures
