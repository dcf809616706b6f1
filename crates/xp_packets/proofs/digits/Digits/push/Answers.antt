use Rattle.xp_packets.proofs.DigitLemmas.{AreDigits-push}
use Rattle.xp_packets.proofs.digits.Digits.push.Goals as goal

pub invariant_of-self : goal.invariant_of-self
invariant_of-self c = rw c.push.ensures.items (AreDigits-push _ _ c.self.invariant c.requires.digit)
