-- The characters of digits, one after the other.
use Rattle.std.proofs.Common.{ℕ, zero, suc, ◌<◌, List, [], ◌∷◌, length, get_or, arith}
use Rattle.xp_packets.specs.Digits.{AreDigits}

-- the digit at a place
pub digit_below : (digits : List ℕ) (place : ℕ) → AreDigits digits → place < length digits → get_or digits place 0 < 10
digit_below [] place are within = absurd (omega (arith, within))
digit_below (digit ∷ digits) zero are within = are.0
digit_below (digit ∷ digits) (suc place) are within = digit_below digits place are.1 (omega (arith, within))
