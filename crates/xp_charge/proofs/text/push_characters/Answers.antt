use Rattle.std.proofs.Common.{◌<◌, ◌∙◌, get_or, sym, subst, rules}
use Rattle.xp_packets.specs.Digits.{AreDigits}
use Rattle.xp_charge.proofs.AppendLemmas.{keeps_appended}
use Rattle.xp_charge.proofs.DigitLemmas.{digit_below}
use Rattle.xp_charge.proofs.text.push_characters.Goals as goal

pub overflow_add-digit : goal.overflow_add-digit
overflow_add-digit g c =
    let below : get_or c.as_slice-digits.result.now c.loop-digit.digit-index 0 < 10 = digit_below _ _ (subst AreDigits (sym c.as_slice-digits.ensures.digits) c.as_slice-digits.ensures.each) c.loop-digit-test.true in
    search rules

pub returns-in_err-push-clause-kept : goal.returns-in_err-push-clause-kept
returns-in_err-push-clause-kept g c = keeps_appended _ _ _ (c.in_err-push.ensures.items ∙ c.loop-digit.invariant)

pub returns-clause-kept : goal.returns-clause-kept
returns-clause-kept g c = keeps_appended _ _ _ c.loop-digit.invariant
