-- P(S), P(R) and the M bit of a packet (X.25 clauses 5.3.1, 5.4.1, 5.4.2 and 5.7.1).
use Rattle.std.specs.Prelude.{ℕ, ◌+◌, ◌*◌, nat_le, Bool, List, [], ◌∷◌}
use Rattle.xp_packets.specs.declared.kind.Kind.{Kind}
use Rattle.xp_packets.specs.declared.modulus.Modulus.{Modulus}
use Rattle.xp_packets.specs.declared.modulus.Modulus.TheVariants.{Eight, Long}
use Rattle.xp_packets.specs.Heading.{bit}
use Rattle.xp_packets.specs.Kinds.{octet_of}

-- how many numbers a line's packets have; the first is 0 (clause 4.4.1.1)
abbrev pub numbers : Modulus → ℕ
numbers Eight = 8
numbers Long = 128

-- a number that no packet has
abbrev pub is_over : Modulus → ℕ → Bool
is_over modulus number = nat_le (numbers modulus) number

-- The type and the numbers of a data packet. Modulo 8 one octet has P(R) in bits 8 to 6, M in bit 5 and P(S) in bits 4
-- to 2. Modulo 128 octet 3 has P(S) in bits 8 to 2, and octet 4 has P(R) in bits 8 to 2 and M in bit 1.
abbrev pub data_octets : Modulus → ℕ → ℕ → Bool → List ℕ
data_octets Eight ps pr more = (32 * pr + bit 16 more + 2 * ps) ∷ []
data_octets Long ps pr more = (2 * ps) ∷ (2 * pr + bit 1 more) ∷ []

-- The type and the number of a flow control packet. Modulo 8 one octet has P(R) in bits 8 to 6 and the type in bits 5
-- to 1. Modulo 128 octet 3 is the type, and octet 4 has P(R) in bits 8 to 2 and a spare bit 1.
abbrev pub flow_octets : Modulus → ℕ → Kind → Bool → List ℕ
flow_octets Eight pr kind spare = (32 * pr + octet_of kind) ∷ []
flow_octets Long pr kind spare = octet_of kind ∷ (2 * pr + bit 1 spare) ∷ []
