-- What was agreed for a call can be carried.
use Rattle.std.proofs.Common.{ℕ, ◌<◌, ◌≤◌, arith}
use Rattle.xp_answer.specs.Terms.{AreTerms}
use Rattle.xp_answer.specs.declared.terms.Terms.{Terms}
use Rattle.xp_packets.specs.Numbers.{numbers}
use Rattle.xp_packets.specs.declared.modulus.Modulus.{Modulus}
use Rattle.xp_packets.specs.declared.modulus.Modulus.TheVariants.{Eight, Long}
use Rattle.xp_relay.specs.Terms.{IsWithinTerms}
use Rattle.xp_machine.specs.declared.agreement.Agreement.{Agreement}
use Rattle.xp_machine.specs.RelayTerms.{terms_of}

-- a window that a line of this modulus can have
record Fits (modulus : Modulus) (window : ℕ) : Type 0 where
  most : window ≤ 15
  below : window < numbers modulus

record BothFit (modulus : Modulus) (terms : Terms) : Type 0 where
  calling : Fits modulus terms.window.from_calling
  called : Fits modulus terms.window.from_called

both_fit : (modulus : Modulus) (terms : Terms) → AreTerms modulus terms → BothFit modulus terms
both_fit Eight terms h = grind arith
both_fit Long terms h = grind arith

pub terms_within : (agreement : Agreement) (caller called : Modulus) → AreTerms caller agreement.terms → AreTerms called agreement.terms
    → IsWithinTerms (terms_of agreement caller called)
terms_within agreement caller called by_caller by_called = grind (arith, both_fit)
