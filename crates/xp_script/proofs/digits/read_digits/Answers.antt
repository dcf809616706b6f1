use Rattle.std.proofs.Common.{◌≡◌, ◌*◌, ◌+◌, arith, slice_index, Ok, refl, ◌∙◌}
use Rattle.hex.specs.Hex.{pair_value}
use Rattle.hex.proofs.HexLemmas.{decode_of-even}
use Rattle.hex.proofs.Pairs.{decode_done, decode_step}
use Rattle.xp_script.proofs.digits.read_digits.Goals as goal

pub octets-preserved : goal.octets-preserved
octets-preserved c =
    let high = c.value_of-high.ensures.value in
    let low = c.value_of-low.ensures.value in
    let read : pair_value (slice_index c.args.digits.now (2 * c.octets.place)) (slice_index c.args.digits.now (2 * c.octets.place + 1)) (2 * c.octets.place) ≡ Ok (c.value_of-high.result * 16 + c.value_of-low.result) = rw (high, low) refl in
    decode_step _ _ c.octets.place _ (omega arith) (omega arith) read c.octets.invariant

pub returns : goal.returns
returns c =
    decode_of-even c.args.digits.now (omega arith) ∙ decode_done _ c.octets.octets c.octets.place (omega arith) (omega arith) c.octets.invariant
