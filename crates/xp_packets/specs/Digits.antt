-- The digits of an address (X.25 clause 5.2.1).
use Rattle.std.specs.Prelude.{◌≡◌, ℕ, ◌+◌, ◌-◌, ◌/◌, ◌%◌, ◌<◌, ◌≤◌, ◌==◌, nat_le, Bool, ◌&&◌, if◌then◌else◌, List, [], ◌∷◌, ◌++◌, length, map, Option, Some, None}
use Rattle.std.specs.List.{list_all}

-- each digit is 0 to 9
abbrev pub AreDigits : List ℕ → Type 0
AreDigits [] = Unit {0}
AreDigits (digit ∷ digits) = (digit < 10) × AreDigits digits

-- the digits as text: the digit 0 is the character 48
abbrev pub text_of : List ℕ → List ℕ
text_of digits = map (λ digit. 48 + digit) digits

-- whether this is a character 0 to 9
abbrev pub is_digit : ℕ → Bool
is_digit character = nat_le 48 character && nat_le character 57

-- the digits that the text spells, if it is at most 15 characters 0 to 9
abbrev pub digits_in : List ℕ → Option (List ℕ)
digits_in text = if nat_le (length text) 15 && list_all is_digit text then Some (map (λ character. character - 48) text) else None

-- the half-octets of octets, the high half first
abbrev pub half_octets : List ℕ → List ℕ
half_octets [] = []
half_octets (octet ∷ octets) = (octet / 16) ∷ (octet % 16) ∷ half_octets octets

-- how many octets hold this many half-octets
abbrev pub octets_for : ℕ → ℕ
octets_for count = (count + 1) / 2

-- what fills the last octet after this many half-octets: a zero if their count is odd
abbrev pub filling : ℕ → List ℕ
filling count = if count % 2 == 1 then 0 ∷ [] else []

-- The octets hold, in half-octets, the digits of the called address, then those of the calling address, and a zero
-- half-octet if their count is odd.
pub record SpellsAddresses (octets called calling : List ℕ) : Type 0 where
  pub called_most : length called ≤ 15
  pub calling_most : length calling ≤ 15
  pub called_digits : AreDigits called
  pub calling_digits : AreDigits calling
  pub coded : half_octets octets ≡ called ++ calling ++ filling (length called + length calling)
