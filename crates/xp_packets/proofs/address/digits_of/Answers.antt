use Rattle.std.proofs.Common.{ℕ, ◌+◌, ◌<◌, ◌≤◌, length, arith, ap, ◌∙◌}
use Rattle.std.proofs.lemmas.Bool.{cond-false}
use Rattle.std.proofs.lemmas.List.{length_push}
use Rattle.xp_packets.specs.Digits.{half_octets}
use Rattle.xp_packets.specs.steps.Reading.{digits_at}
use Rattle.xp_packets.proofs.HalfOctets.{digit_more, all_more, none_at, length-half_octets, digits_read}
use Rattle.xp_packets.proofs.address.digits_of.Goals as goal

pub returns-then-digit-ge10 : goal.returns-then-digit-ge10
unfolding digits_at
returns-then-digit-ge10 c =
    let all = half_octets c.args.octets.now in
    let within : c.args.from + c.args.count ≤ length all = omega (arith, length-half_octets c.args.octets.now) in
    cond-false _ _ _ (none_at all c.args.from c.args.count c.loop-place.place _ within (omega arith) c.half_octet-digit.ensures c.if-digit-ge10.true)

pub loop-place-preserved : goal.loop-place-preserved
loop-place-preserved c =
    let all = half_octets c.args.octets.now in
    let within : c.args.from + c.loop-place.place < length all = omega (arith, length-half_octets c.args.octets.now) in
    record {
      front = c.push.ensures ∙ digit_more all c.loop-place.digits c.args.from c.loop-place.place _ within c.half_octet-digit.ensures c.loop-place.invariant.front;
      count = ap length c.push.ensures ∙ length_push c.loop-place.digits _ ∙ ap (λ (n : ℕ). n + 1) c.loop-place.invariant.count;
      are = all_more all c.args.from c.loop-place.place _ within c.half_octet-digit.ensures (omega arith) c.loop-place.invariant.are;
    }

pub returns : goal.returns
returns c = digits_read c.args.octets.now c.loop-place.digits c.args.from c.args.count c.loop-place.place (omega arith) c.loop-place.invariant.are c.loop-place.invariant.front
