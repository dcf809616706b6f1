-- Reading a packet from its first octet to its last, as the private functions do it.
use Rattle.std.specs.Prelude.{◌≡◌, ℕ, ◌+◌, ◌*◌, ◌/◌, ◌%◌, ◌==◌, nat_lt, nat_le, Bool, true, not, ◌&&◌, ◌||◌, if◌then◌else◌, List, [], ◌∷◌, length, take, drop, slice_index, Option, Some, None, Result, Ok, Err}
use Rattle.std.specs.List.{list_all}
use Rattle.xp_packets.specs.declared.fault.Malformed.{Malformed}
use Rattle.xp_packets.specs.declared.fault.Malformed.TheVariants.{Short, Format, Unknown, Address, Facilities, Long}
use Rattle.xp_packets.specs.declared.fault.PacketFault.{PacketFault}
use Rattle.xp_packets.specs.declared.fault.PacketFault.TheVariants as faults
use Rattle.xp_packets.specs.declared.header.Header.{Header}
use Rattle.xp_packets.specs.declared.kind.Kind.{Kind}
use Rattle.xp_packets.specs.declared.kind.Kind.TheVariants as kinds
use Rattle.xp_packets.specs.declared.modulus.Modulus.{Modulus}
use Rattle.xp_packets.specs.declared.block.Block.{Block}
use Rattle.xp_packets.specs.declared.packet.Packet.{Packet}
use Rattle.xp_packets.specs.declared.packet.Packet.TheVariants.{Call, Accepted, Clear, ClearConfirm, DataPacket, Ready, NotReady, Reject, Interrupt, InterruptConfirm, Reset, ResetConfirm}
use Rattle.xp_packets.specs.Digits.{half_octets, octets_for}
use Rattle.xp_packets.specs.Heading.{wrong_format}
use Rattle.xp_packets.specs.Kinds.{kind_of}
use Rattle.xp_packets.specs.steps.Numbers.{data_numbers_at, flow_number_at}

infixl 10 ◌>>=◌
abbrev pub ◌>>=◌ : {X Y : Type 0} → Result X Malformed → (X → Result Y Malformed) → Result Y Malformed
(Ok x) >>= f = f x
(Err e) >>= f = Err e

-- The result of a function that allocates nothing agrees with the result of reading. `view` is applied to its value.
abbrev pub MatchesReading : {X Y : Type 0} → (X → Y) → Result X Malformed → Result Y Malformed → Type 0
MatchesReading view (Ok x) read = read ≡ Ok (view x)
MatchesReading view (Err wrong) read = read ≡ Err wrong

-- The error of a function that may allocate. It is out of memory only where reading returns something that owns
-- memory.
abbrev pub FailsAsReading : {Y : Type 0} → (Y → Bool) → PacketFault → Result Y Malformed → Type 0
FailsAsReading {Y} owns faults.Memory read = (y : Y) × (read ≡ Ok y) × (owns y ≡ true)
FailsAsReading owns (faults.Malformed wrong) read = read ≡ Err wrong

-- The result of a function that may allocate agrees with the result of reading, or is out of memory.
abbrev pub MatchesReadingOrMemory : {X : Type 0} → (X → Bool) → Result X PacketFault → Result X Malformed → Type 0
MatchesReadingOrMemory owns (Ok x) read = read ≡ Ok x
MatchesReadingOrMemory owns (Err e) read = FailsAsReading owns e read

-- ---- the first three octets, and the octets after them

abbrev pub made_header : ℕ → ℕ → ℕ → Kind → Header
made_header first number octet kind =
    record { identifier = first % 16 * 256 + number; q = nat_le 128 first; d = first / 64 % 2 == 1; kind = kind; octet = octet }

abbrev pub known_header : ℕ → ℕ → ℕ → List ℕ → Option Kind → Result (Header × List ℕ) Malformed
known_header first number octet rest None = Err Unknown
known_header first number octet rest (Some kind) = Ok (made_header first number octet kind, rest)

unfoldable pub header_at : Modulus → List ℕ → Result (Header × List ℕ) Malformed
header_at modulus (first ∷ number ∷ octet ∷ rest) =
    if wrong_format modulus first octet then Err Format else
    known_header first number octet rest (kind_of modulus octet)
header_at modulus _ = Err Short

-- ---- blocks

-- `count` half-octets, from half-octet `from` on, as digits
unfoldable pub digits_at : List ℕ → ℕ → ℕ → Result (List ℕ) Malformed
digits_at octets from count =
    if list_all (λ half. nat_lt half 10) (take count (drop from (half_octets octets)))
    then Ok (take count (drop from (half_octets octets)))
    else Err Address

-- both addresses, and the octets after them
unfoldable pub addresses_at : ℕ → ℕ → List ℕ → Result (List ℕ × List ℕ × List ℕ) Malformed
addresses_at called calling octets = if nat_lt (length octets) (octets_for (called + calling)) then Err Address else (do
  to ← digits_at (take (octets_for (called + calling)) octets) 0 called
  by ← digits_at (take (octets_for (called + calling)) octets) called calling
  if ((called + calling) % 2 == 1) && not (slice_index (half_octets (take (octets_for (called + calling)) octets)) (called + calling) == 0) then Err Address else Ok (to, by, drop (octets_for (called + calling)) octets))

-- the facilities, and user data of at most `most` octets
unfoldable pub fields_at : ℕ → List ℕ → Result (List ℕ × List ℕ) Malformed
fields_at most [] = Ok ([], [])
fields_at most (size ∷ rest) =
    if nat_lt 109 size || nat_lt (length rest) size then Err Facilities else
    (if nat_lt most (length (drop size rest)) then Err Long else Ok (take size rest, drop size rest))

-- a block whose user data has at most `most` octets
unfoldable pub block_at : {A : Type 0} → ℕ → List ℕ → Result (Block A) Malformed
block_at most [] = Err Short
block_at most (lengths ∷ rest) = do
  addresses ← addresses_at (lengths % 16) (lengths / 16) rest
  fields ← fields_at most addresses.2
  Ok (record { called = addresses.0; calling = addresses.1; facilities = fields.0; user = fields.1 })

unfoldable pub optional_block_at : {A : Type 0} → ℕ → List ℕ → Result (Option (Block A)) Malformed
optional_block_at most [] = Ok None
optional_block_at most (octet ∷ rest) = do
  block ← block_at most (octet ∷ rest)
  Ok (Some block)

-- ---- each kind of packet, from the octets after its type

unfoldable pub call_at : {A : Type 0} → Bool → List ℕ → Result (Packet A) Malformed
call_at d rest = do
  block ← block_at 128 rest
  Ok (Call d block)

unfoldable pub accepted_at : {A : Type 0} → Bool → List ℕ → Result (Packet A) Malformed
accepted_at d rest = do
  block ← optional_block_at 128 rest
  Ok (Accepted d block)

unfoldable pub clear_at : {A : Type 0} → List ℕ → Result (Packet A) Malformed
clear_at [] = Err Short
clear_at (cause ∷ []) = Ok (Clear cause None None)
clear_at (cause ∷ diagnostic ∷ rest) = do
  block ← optional_block_at 128 rest
  Ok (Clear cause (Some diagnostic) block)

unfoldable pub clear_confirm_at : {A : Type 0} → List ℕ → Result (Packet A) Malformed
clear_confirm_at rest = do
  block ← optional_block_at 0 rest
  Ok (ClearConfirm block)

unfoldable pub data_at : {A : Type 0} → Modulus → Bool → Bool → ℕ → List ℕ → Result (Packet A) Malformed
data_at modulus q d octet rest = do
  read ← data_numbers_at modulus octet rest
  if nat_lt 1024 (length read.1) then Err Long else Ok (DataPacket q d read.0.more read.0.ps read.0.pr read.1)

-- a flow control packet, of which `packet` says what it is by its P(R)
unfoldable pub flow_at : {A : Type 0} → (ℕ → Packet A) → Modulus → ℕ → List ℕ → Result (Packet A) Malformed
flow_at packet modulus octet rest = do
  pr ← flow_number_at modulus octet rest
  Ok (packet pr)

unfoldable pub interrupt_at : {A : Type 0} → List ℕ → Result (Packet A) Malformed
interrupt_at [] = Err Short
interrupt_at (octet ∷ rest) = if nat_lt 32 (length (octet ∷ rest)) then Err Long else Ok (Interrupt (octet ∷ rest))

unfoldable pub reset_at : {A : Type 0} → List ℕ → Result (Packet A) Malformed
reset_at [] = Err Short
reset_at (cause ∷ []) = Ok (Reset cause None)
reset_at (cause ∷ diagnostic ∷ []) = Ok (Reset cause (Some diagnostic))
reset_at (cause ∷ diagnostic ∷ _ ∷ _) = Err Long

-- a packet that ends after its type
unfoldable pub header_only_at : {A : Type 0} → Packet A → List ℕ → Result (Packet A) Malformed
header_only_at packet [] = Ok packet
header_only_at packet (_ ∷ _) = Err Long

-- ---- the whole

abbrev pub body_by : {A : Type 0} → Modulus → Kind → Header → List ℕ → Result (Packet A) Malformed
body_by modulus kinds.Call header rest = call_at header.d rest
body_by modulus kinds.Accepted header rest = accepted_at header.d rest
body_by modulus kinds.Clear header rest = clear_at rest
body_by modulus kinds.ClearConfirm header rest = clear_confirm_at rest
body_by modulus kinds.Interrupt header rest = interrupt_at rest
body_by modulus kinds.InterruptConfirm header rest = header_only_at InterruptConfirm rest
body_by modulus kinds.Reset header rest = reset_at rest
body_by modulus kinds.ResetConfirm header rest = header_only_at ResetConfirm rest
body_by modulus kinds.Data header rest = data_at modulus header.q header.d header.octet rest
body_by modulus kinds.Ready header rest = flow_at (λ pr. Ready pr) modulus header.octet rest
body_by modulus kinds.NotReady header rest = flow_at (λ pr. NotReady pr) modulus header.octet rest
body_by modulus kinds.Reject header rest = flow_at (λ pr. Reject pr) modulus header.octet rest

unfoldable pub packet_at : {A : Type 0} → Modulus → List ℕ → Result (ℕ × Packet A) Malformed
packet_at modulus octets = do
  header ← header_at modulus octets
  packet ← body_by modulus header.0.kind header.0 header.1
  Ok (header.0.identifier, packet)
