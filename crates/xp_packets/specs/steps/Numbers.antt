-- Reading P(S), P(R) and the M bit from a type octet and the octets after it (X.25 clauses 5.3.1, 5.4.1, 5.4.2 and
-- 5.7.1). Only contracts of private functions use this.
use Rattle.std.specs.Prelude.{ℕ, ◌/◌, ◌%◌, ◌==◌, List, [], ◌∷◌, Result, Ok, Err}
use Rattle.xp_packets.specs.declared.fault.Malformed.{Malformed}
use Rattle.xp_packets.specs.declared.fault.Malformed.TheVariants as faults
use Rattle.xp_packets.specs.declared.modulus.Modulus.{Modulus}
use Rattle.xp_packets.specs.declared.modulus.Modulus.TheVariants.{Eight, Long}
use Rattle.xp_packets.specs.declared.numbers.Numbers.{Numbers}

-- the numbers and the M bit of a data packet, and the octets after them
unfoldable pub data_numbers_at : Modulus → ℕ → List ℕ → Result (Numbers × List ℕ) Malformed
data_numbers_at Eight octet rest =
    Ok (record { ps = octet / 2 % 8; pr = octet / 32; more = octet / 16 % 2 == 1 }, rest)
data_numbers_at Long octet [] = Err faults.Short
data_numbers_at Long octet (second ∷ rest) =
    Ok (record { ps = octet / 2; pr = second / 2; more = second % 2 == 1 }, rest)

-- the P(R) of a flow control packet, after which no octet follows
unfoldable pub flow_number_at : Modulus → ℕ → List ℕ → Result ℕ Malformed
flow_number_at Eight octet [] = Ok (octet / 32)
flow_number_at Eight octet (_ ∷ _) = Err faults.Long
flow_number_at Long octet [] = Err faults.Short
flow_number_at Long octet (second ∷ []) = Ok (second / 2)
flow_number_at Long octet (second ∷ _ ∷ _) = Err faults.Long
