-- The octets that `encode` writes for a packet.
use Rattle.std.specs.Prelude.{ℕ, ◌+◌, ◌*◌, Bool, false, List, [], ◌∷◌, ◌++◌, length, Option, Some, None}
use Rattle.xp_packets.specs.declared.block.Block.{Block}
use Rattle.xp_packets.specs.declared.modulus.Modulus.{Modulus}
use Rattle.xp_packets.specs.declared.packet.Packet.{Packet}
use Rattle.xp_packets.specs.declared.packet.Packet.TheVariants.{Call, Accepted, Clear, ClearConfirm, DataPacket, Ready, NotReady, Reject, Interrupt, InterruptConfirm, Reset, ResetConfirm}
use Rattle.xp_packets.specs.declared.kind.Kind.TheVariants as kinds
use Rattle.xp_packets.specs.Heading.{heading}
use Rattle.xp_packets.specs.Kinds.{octet_of}
use Rattle.xp_packets.specs.Numbers.{data_octets, flow_octets}

-- half-octets in pairs, one pair an octet; a zero follows the last where it has no partner
abbrev pub packed : List ℕ → List ℕ
packed [] = []
packed (high ∷ []) = (16 * high) ∷ []
packed (high ∷ low ∷ rest) = (16 * high + low) ∷ packed rest

abbrev pub written_block : {A : Type 0} → Block A → List ℕ
written_block block =
    (16 * length block.calling + length block.called) ∷ (packed (block.called ++ block.calling) ++ (length block.facilities ∷ (block.facilities ++ block.user)))

abbrev pub written_optional_block : {A : Type 0} → Option (Block A) → List ℕ
written_optional_block None = []
written_optional_block (Some block) = written_block block

abbrev pub has_q : {A : Type 0} → Packet A → Bool
has_q (DataPacket q d more ps pr octets) = q
has_q _ = false

abbrev pub has_d : {A : Type 0} → Packet A → Bool
has_d (Call d block) = d
has_d (Accepted d block) = d
has_d (DataPacket q d more ps pr octets) = d
has_d _ = false

-- the type, with the numbers that it carries; a spare bit is zero
abbrev pub written_type : {A : Type 0} → Modulus → Packet A → List ℕ
written_type modulus (Call d block) = octet_of kinds.Call ∷ []
written_type modulus (Accepted d block) = octet_of kinds.Accepted ∷ []
written_type modulus (Clear cause diagnostic block) = octet_of kinds.Clear ∷ []
written_type modulus (ClearConfirm block) = octet_of kinds.ClearConfirm ∷ []
written_type modulus (DataPacket q d more ps pr octets) = data_octets modulus ps pr more
written_type modulus (Ready pr) = flow_octets modulus pr kinds.Ready false
written_type modulus (NotReady pr) = flow_octets modulus pr kinds.NotReady false
written_type modulus (Reject pr) = flow_octets modulus pr kinds.Reject false
written_type modulus (Interrupt octets) = octet_of kinds.Interrupt ∷ []
written_type modulus InterruptConfirm = octet_of kinds.InterruptConfirm ∷ []
written_type modulus (Reset cause diagnostic) = octet_of kinds.Reset ∷ []
written_type modulus ResetConfirm = octet_of kinds.ResetConfirm ∷ []

abbrev pub written_cause : ℕ → Option ℕ → List ℕ
written_cause cause None = cause ∷ []
written_cause cause (Some diagnostic) = cause ∷ diagnostic ∷ []

-- the octets after the type and the numbers
abbrev pub written_body : {A : Type 0} → Packet A → List ℕ
written_body (Call d block) = written_block block
written_body (Accepted d block) = written_optional_block block
written_body (Clear cause diagnostic block) = written_cause cause diagnostic ++ written_optional_block block
written_body (ClearConfirm block) = written_optional_block block
written_body (DataPacket q d more ps pr octets) = octets
written_body (Interrupt octets) = octets
written_body (Reset cause diagnostic) = written_cause cause diagnostic
written_body (Ready pr) = []
written_body (NotReady pr) = []
written_body (Reject pr) = []
written_body InterruptConfirm = []
written_body ResetConfirm = []

abbrev pub written : {A : Type 0} → Modulus → ℕ → Packet A → List ℕ
written modulus identifier packet =
    heading modulus (has_q packet) (has_d packet) identifier ++ (written_type modulus packet ++ written_body packet)
