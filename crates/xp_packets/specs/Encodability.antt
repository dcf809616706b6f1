-- Which packets cannot be encoded, and why: the first that holds of a list of conditions over the packet.
use Rattle.std.specs.Prelude.{◌≡◌, ℕ, ◌==◌, nat_lt, Bool, true, false, ◌||◌, [], ◌∷◌, length, Option, Some, None}
use Rattle.xp_packets.specs.declared.fault.Malformed.{Malformed}
use Rattle.xp_packets.specs.declared.fault.Malformed.TheVariants.{Short, Format, Facilities, Long}
use Rattle.xp_packets.specs.declared.block.Block.{Block}
use Rattle.xp_packets.specs.declared.modulus.Modulus.{Modulus}
use Rattle.xp_packets.specs.declared.packet.Packet.{Packet}
use Rattle.xp_packets.specs.declared.packet.Packet.TheVariants.{Call, Accepted, Clear, ClearConfirm, DataPacket, Ready, NotReady, Reject, Interrupt}
use Rattle.xp_packets.specs.Examination.{first_of}
use Rattle.xp_packets.specs.Numbers.{is_over}

-- an interrupt without data, or a clear with a block and no diagnostic before it
abbrev pub lacks_octet : {A : Type 0} → Packet A → Bool
lacks_octet (Clear cause None (Some block)) = true
lacks_octet (Interrupt octets) = length octets == 0
lacks_octet _ = false

-- P(S) or P(R) is over 7, or modulo 128 over 127
abbrev pub has_wrong_number : {A : Type 0} → Modulus → Packet A → Bool
has_wrong_number modulus (DataPacket q d more ps pr octets) = is_over modulus ps || is_over modulus pr
has_wrong_number modulus (Ready pr) = is_over modulus pr
has_wrong_number modulus (NotReady pr) = is_over modulus pr
has_wrong_number modulus (Reject pr) = is_over modulus pr
has_wrong_number modulus _ = false

-- the block of a packet, if it has one
abbrev pub block_of : {A : Type 0} → Packet A → Option (Block A)
block_of (Call d block) = Some block
block_of (Accepted d block) = block
block_of (Clear cause diagnostic block) = block
block_of (ClearConfirm block) = block
block_of _ = None

-- the block has more than 109 octets of facilities
abbrev pub has_long_facilities : {A : Type 0} → Option (Block A) → Bool
has_long_facilities None = false
has_long_facilities (Some block) = nat_lt 109 (length block.facilities)

-- the block has more than `most` octets of user data
abbrev pub has_more_user_data : {A : Type 0} → ℕ → Option (Block A) → Bool
has_more_user_data most None = false
has_more_user_data most (Some block) = nat_lt most (length block.user)

-- more user data, data or interrupt data than a packet of its kind may carry
abbrev pub is_too_long : {A : Type 0} → Packet A → Bool
is_too_long (Call d block) = has_more_user_data 128 (Some block)
is_too_long (Accepted d block) = has_more_user_data 128 block
is_too_long (Clear cause diagnostic block) = has_more_user_data 128 block
is_too_long (ClearConfirm block) = has_more_user_data 0 block
is_too_long (DataPacket q d more ps pr octets) = nat_lt 1024 (length octets)
is_too_long (Interrupt octets) = nat_lt 32 (length octets)
is_too_long _ = false

-- the first reason why no octets spell the identifier and the packet
abbrev pub encoding_fault : {A : Type 0} → Modulus → ℕ → Packet A → Option Malformed
encoding_fault modulus identifier packet =
    first_of ((lacks_octet packet, Short)
    ∷ (has_wrong_number modulus packet || nat_lt 4095 identifier, Format)
    ∷ (has_long_facilities (block_of packet), Facilities)
    ∷ (is_too_long packet, Long)
    ∷ [])

-- `encode` can fail for these only because it is out of memory
abbrev pub CanBeEncoded : {A : Type 0} → Modulus → ℕ → Packet A → Type 0
CanBeEncoded modulus identifier packet = encoding_fault modulus identifier packet ≡ None
