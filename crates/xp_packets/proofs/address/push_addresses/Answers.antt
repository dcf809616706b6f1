use Rattle.std.proofs.Common.{◌*◌, ◌<◌, ◌++◌, length, arith}
use Rattle.std.proofs.lemmas.List.{length-append}
use Rattle.xp_packets.proofs.BitLemmas.{half_bits}
use Rattle.xp_packets.proofs.HalfOctets.{packs_on}
use Rattle.xp_packets.proofs.address.push_addresses.Goals as goal

pub loop-place-preserved : goal.loop-place-preserved
loop-place-preserved g c =
    let to = c.as_slice-called.result.now in
    let by = c.as_slice-calling.result.now in
    let within : 2 * c.loop-place.place < length (to ++ by) = omega (arith, length-append to by) in
    let octet = half_bits c.digit_at-high.result c.digit_at-low.result c.digit_at-high.ensures.below c.digit_at-low.ensures.below in
    rw (c.in_ok-push.ensures.items, octet) (packs_on c.loop-place.out.items c.args.out.now.items (to ++ by) c.loop-place.place _ _ within c.digit_at-high.ensures.digit c.digit_at-low.ensures.digit c.loop-place.invariant)
