-- The results of decoding.
use Rattle.std.specs.Prelude.{◌≡◌, ℕ, true, List, Result, Ok, Err}
use Rattle.xp_packets.specs.declared.fault.PacketFault.{PacketFault}
use Rattle.xp_packets.specs.declared.fault.PacketFault.TheVariants as faults
use Rattle.xp_packets.specs.declared.modulus.Modulus.{Modulus}
use Rattle.xp_packets.specs.declared.packet.Packet.{Packet}
use Rattle.xp_packets.specs.Examination.{IsMalformed}
use Rattle.xp_packets.specs.Owning.{owns_octets}
use Rattle.xp_packets.specs.Spelling.{Spells}

-- Decoding returns the identifier and the packet that the octets spell, or what is wrong with the octets. It reports
-- out of memory only where they spell a packet that holds octets.
abbrev pub Decodes : {A : Type 0} → Modulus → List ℕ → Result (ℕ × Packet A) PacketFault → Type 0
Decodes modulus octets (Ok read) = Spells modulus octets read.0 read.1
Decodes modulus octets (Err (faults.Malformed wrong)) = IsMalformed modulus octets wrong
Decodes {A} modulus octets (Err faults.Memory) = (identifier : ℕ) × (packet : Packet A) × Spells modulus octets identifier packet × (owns_octets packet ≡ true)
