-- The checksum of IPv4 and TCP (RFC 1071).
use Rattle.std.specs.Prelude.{ℕ, ◌+◌, ◌-◌, ◌*◌, ◌%◌, List, [], ◌∷◌}

-- the sum of the words of 16 bits that octets are; a zero octet follows the last of an odd count
abbrev pub sum_of_octets : List ℕ → ℕ
sum_of_octets [] = 0
sum_of_octets (high ∷ []) = 256 * high
sum_of_octets (high ∷ low ∷ octets) = 256 * high + low + sum_of_octets octets

-- the sum with carries added at its low end, of 1 to 65,535 where it is not 0
abbrev pub with_carries : ℕ → ℕ
with_carries total = 1 + (total - 1) % 65_535

-- the checksum of words with this sum, which is not 0
abbrev pub checksum : ℕ → ℕ
checksum total = 65_535 - with_carries total
