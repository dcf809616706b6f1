-- Laws of the encoding, over both moduli, all octets and all packets.
use Rattle.std.specs.Prelude.{◌≡◌, ℕ, ◌<◌, ◌⊎◌, List, slice_index, None}
use Rattle.xp_packets.specs.declared.fault.Malformed.{Malformed}
use Rattle.xp_packets.specs.declared.modulus.Modulus.{Modulus}
use Rattle.xp_packets.specs.declared.modulus.Modulus.TheVariants.{Eight, Long}
use Rattle.xp_packets.specs.declared.packet.Packet.{Packet}
use Rattle.xp_packets.specs.Addresses.{HasAddresses}
use Rattle.xp_packets.specs.Examination.{IsMalformed}
use Rattle.xp_packets.specs.Encodability.{CanBeEncoded, encoding_fault}
use Rattle.xp_packets.specs.Spelling.{Spells, WrittenAs}

-- each is below 256
abbrev pub AreOctets : List ℕ → Type 0
AreOctets octets = (i : ℕ) → slice_index octets i < 256

-- These octets spell this identifier and packet, and nothing else.
pub record SpellsOnly (A : Type 0) (modulus : Modulus) (octets : List ℕ) (identifier : ℕ) (packet : Packet A) : Type 0 where
  pub spelled : Spells modulus octets identifier packet
  pub only : (other : ℕ) (another : Packet A) → Spells modulus octets other another → (other ≡ identifier) × (another ≡ packet)
  pub right : (wrong : Malformed) → IsMalformed modulus octets wrong → ⊥

-- These octets have this fault and no other, and they spell no packet.
pub record IsOnlyMalformed (A : Type 0) (modulus : Modulus) (octets : List ℕ) (wrong : Malformed) : Type 0 where
  pub found : IsMalformed modulus octets wrong
  pub only : (other : Malformed) → IsMalformed modulus octets other → other ≡ wrong
  pub unspelled : (identifier : ℕ) (packet : Packet A) → Spells modulus octets identifier packet → ⊥

-- All octets either spell exactly one identifier and packet, or have exactly one fault; never both.
abbrev pub EitherSpelledOrMalformed : (A : Type 0) → Type 0
EitherSpelledOrMalformed A =
    (modulus : Modulus) (octets : List ℕ) → AreOctets octets →
    ((identifier : ℕ) × (packet : Packet A) × SpellsOnly A modulus octets identifier packet) ⊎ ((wrong : Malformed) × IsOnlyMalformed A modulus octets wrong)

-- An identifier and a packet have at most one spelling in which every block has both length octets and spare bits are zero.
abbrev pub OneWrittenSpelling : (A : Type 0) → Type 0
OneWrittenSpelling A =
    (modulus : Modulus) (octets others : List ℕ) (identifier : ℕ) (packet : Packet A) →
    WrittenAs modulus octets identifier packet → WrittenAs modulus others identifier packet → octets ≡ others

-- Octets that `WrittenAs` allows for a pair spell that pair and no other, so decoding returns that pair.
abbrev pub WrittenIsReadBack : (A : Type 0) → Type 0
WrittenIsReadBack A =
    (modulus : Modulus) (octets : List ℕ) (identifier : ℕ) (packet : Packet A) →
    WrittenAs modulus octets identifier packet → SpellsOnly A modulus octets identifier packet

-- If any octets spell a packet, encoding finds no fault in it.
abbrev pub SpelledIsEncodable : (A : Type 0) → Type 0
SpelledIsEncodable A =
    (modulus : Modulus) (octets : List ℕ) (identifier : ℕ) (packet : Packet A) →
    Spells modulus octets identifier packet → encoding_fault modulus identifier packet ≡ None

-- A packet in which encoding finds no fault has a spelling in which every block has both length octets and spare
-- bits are zero.
abbrev pub EncodableIsWritten : (A : Type 0) → Type 0
EncodableIsWritten A =
    (modulus : Modulus) (identifier : ℕ) (packet : Packet A) → HasAddresses packet → encoding_fault modulus identifier packet ≡ None →
    (octets : List ℕ) × WrittenAs modulus octets identifier packet

-- A packet that can be encoded modulo 8 can be encoded modulo 128.
abbrev pub EncodableByBoth : (A : Type 0) → Type 0
EncodableByBoth A =
    (identifier : ℕ) (packet : Packet A) → CanBeEncoded Eight identifier packet → CanBeEncoded Long identifier packet
