use Rattle.std.proofs.Common.{◌≡◌, ℕ, zero, suc, ◌+◌, ◌<◌, List, [], ◌∷◌, ◌++◌, length, take, get_or, ap, arith}
use Rattle.std.proofs.lemmas.Fmt.{decimal_digit}
use Rattle.std.specs.Fmt.{decimal}
use Rattle.xp_packets.specs.Digits.{AreDigits, text_of}

-- one more digit keeps the list one of digits
pub AreDigits-push : (digits : List ℕ) (digit : ℕ) → AreDigits digits → digit < 10 → AreDigits (digits ++ digit ∷ [])
AreDigits-push [] digit are below = (below, tt)
AreDigits-push (first ∷ digits) digit are below = (are.0, AreDigits-push digits digit are.1 below)

written-suc : (digits : List ℕ) (place : ℕ) → AreDigits digits → place < length digits
    → text_of (take place digits) ++ decimal (get_or digits place 0) ≡ text_of (take (suc place) digits)
written-suc [] place are within = absurd (omega (arith, within))
written-suc (digit ∷ digits) zero are within = decimal_digit digit are.0
written-suc (digit ∷ digits) (suc place) are within = ap (λ text. (48 + digit) ∷ text) (written-suc digits place are.1 (omega (arith, within)))

-- one more digit is written behind those before it
pub text_of-next : (digits : List ℕ) (place : ℕ) → AreDigits digits → place < length digits
    → text_of (take place digits) ++ decimal (get_or digits place 0) ≡ text_of (take (place + 1) digits)
text_of-next digits place are within = let one : place + 1 ≡ suc place = omega arith in rw one (written-suc digits place are within)
