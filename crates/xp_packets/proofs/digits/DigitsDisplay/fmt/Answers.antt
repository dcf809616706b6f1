use Rattle.std.proofs.Common.{rules}
use Rattle.std.proofs.Output.{has_written_append, has_written_of_eq}
use Rattle.xp_packets.proofs.DigitLemmas.{text_of-next}
use Rattle.xp_packets.proofs.digits.DigitsDisplay.fmt.Goals as goal

pub loop-digit-preserved : goal.loop-digit-preserved
loop-digit-preserved g c plain =
    let next = text_of-next c.as_slice-digit-items.result.now c.loop-digit.digit-index (search rules) (search rules) in
    has_written_of_eq _ _ _ _ _ next (has_written_append _ _ _ _ _ _ (c.loop-digit.invariant plain) (search rules))
