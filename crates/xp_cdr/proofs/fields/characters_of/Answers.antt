use Rattle.std.proofs.Common.{◌<◌, get_or, rules, subst, sym}
use Rattle.xp_packets.specs.Digits.{AreDigits}
use Rattle.xp_cdr.proofs.DigitLemmas.{digit_below}
use Rattle.xp_cdr.proofs.fields.characters_of.Goals as goal

pub overflow_add-digit : goal.overflow_add-digit
overflow_add-digit c =
    let below : get_or c.as_slice-digits.result.now c.loop-digit.digit-index 0 < 10 = digit_below _ _ (subst AreDigits (sym c.as_slice-digits.ensures.digits) c.as_slice-digits.ensures.each) c.loop-digit-test.true in
    search rules
