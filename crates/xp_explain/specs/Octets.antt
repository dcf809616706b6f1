-- Octets in hexadecimal digits, as an operator writes them.
use Rattle.std.specs.Prelude.{◌≡◌, ℕ, ◌<◌, ◌≤◌, length, List, Ok, Err}
use Rattle.hex.specs.Hex.{decode_of}
use Rattle.hex.specs.declared.error.FromHexError.TheVariants.{InvalidHexCharacter, OddLength}
use Rattle.xp_explain.specs.declared.octets.OctetsFault.{OctetsFault}
use Rattle.xp_explain.specs.declared.octets.OctetsFault.TheVariants.{Memory, NoDigit, Odd, Over}

-- the octets that the digits of a text stand for, at most so many
pub record AreOctetsOf (text : List ℕ) (most : ℕ) (octets : List ℕ) : Type 0 where
  pub digits : decode_of text ≡ Ok octets
  pub few : length octets ≤ most

-- the octets of a text are more
pub record IsOver (text : List ℕ) (most found : ℕ) : Type 0 where
  pub octets : List ℕ
  pub digits : decode_of text ≡ Ok octets
  pub many : most < found
  pub count : found ≡ length octets

-- why a text is not so many octets: an odd length comes first, then the first character that is no digit
abbrev pub IsFaultOf : List ℕ → ℕ → OctetsFault → Type 0
IsFaultOf text most (Odd found) = (decode_of text ≡ Err OddLength) × (found ≡ length text)
IsFaultOf text most (NoDigit found) = (place : ℕ) × (decode_of text ≡ Err (InvalidHexCharacter found place))
IsFaultOf text most (Over bound found) = (bound ≡ most) × IsOver text most found
IsFaultOf text most Memory = Unit {0}
