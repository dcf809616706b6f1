-- The packet and window sizes of the live calls (X.25 clause 6.12).
use Rattle.std.specs.Prelude.{◌≡◌, ℕ, Some, IfSome}
use Rattle.xp_answer.specs.Terms.{AreSettled, AreTerms}
use Rattle.xp_packets.specs.declared.modulus.Modulus.{Modulus}
use Rattle.xp_subs.specs.Tables.{Tables, modulus_of}
use Rattle.xp_machine.specs.World.{Call, World, call_numbered}

-- those indicated are in their ranges for a line of this modulus, and those of a connected call are between them and the
-- usual ones
pub record HasTerms (modulus : Modulus) (call : Call) : Type 0 where
  pub indicated : AreTerms modulus call.setup.indicated
  pub agreed : IfSome call.agreed (λ agreement. AreSettled modulus call.setup.indicated agreement.terms)

-- for both lines of each call
abbrev pub AllHaveTerms : Tables → World → Type 0
AllHaveTerms tables world = (number : ℕ) (call : Call) → call_numbered world number ≡ Some call
    → HasTerms (modulus_of tables call.caller) call × HasTerms (modulus_of tables call.called) call
