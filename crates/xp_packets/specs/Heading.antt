-- The first two octets of every packet, and what has to hold of them and of the type octet (X.25 clause 5.1).
use Rattle.std.specs.Prelude.{◌≡◌, ℕ, ◌+◌, ◌*◌, ◌/◌, ◌%◌, ◌<◌, Bool, true, false, not, ◌&&◌, ◌||◌, ◌==◌, nat_le, List, [], ◌∷◌, ◌++◌}
use Rattle.xp_packets.specs.declared.kind.Kind.TheVariants.{Call, Accepted}
use Rattle.xp_packets.specs.declared.modulus.Modulus.{Modulus}
use Rattle.xp_packets.specs.declared.modulus.Modulus.TheVariants.{Eight, Long}
use Rattle.xp_packets.specs.Kinds.{octet_of}

-- the weight of a bit that is set, otherwise zero
abbrev pub bit : ℕ → Bool → ℕ
bit weight true = weight
bit weight false = 0

-- the value of bits 6 and 5 of octet 1
abbrev pub modulus_bits : Modulus → ℕ
modulus_bits Eight = 1
modulus_bits Long = 2

-- Octet 1 has Q in bit 8, D in bit 7, the modulus in bits 6 and 5 and the channel group in bits 4 to 1. Octet 2 is
-- the channel number. The identifier is 256 times the group plus the number.
abbrev pub heading : Modulus → Bool → Bool → ℕ → List ℕ
heading modulus q d identifier =
    (bit 128 q + bit 64 d + 16 * modulus_bits modulus + identifier / 256) ∷ (identifier % 256) ∷ []

-- the octets are this heading, followed by the rest, which begins with the type octet
abbrev pub Begins : Modulus → List ℕ → Bool → Bool → ℕ → List ℕ → Type 0
Begins modulus octets q d identifier rest = (identifier < 4096) × (octets ≡ heading modulus q d identifier ++ rest)

-- Q is set outside a data packet, whose type octet is even; or D is set outside a data, call or call accepted packet.
abbrev pub wrong_flags : Bool → Bool → ℕ → Bool
wrong_flags q d octet = (octet % 2 == 1) && (q || (not ((octet == octet_of Call) || (octet == octet_of Accepted)) && d))

-- bits 6 and 5 give another modulus, or Q or D is set where it may not be
abbrev pub wrong_format : Modulus → ℕ → ℕ → Bool
wrong_format modulus first octet =
    not (first / 16 % 4 == modulus_bits modulus) || wrong_flags (nat_le 128 first) (first / 64 % 2 == 1) octet
