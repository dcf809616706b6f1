-- Which octets spell which packet, that is, are an encoding of it (X.25 clause 5), as a relation on whole octet
-- strings.
use Rattle.std.specs.Prelude.{◌≡◌, ℕ, ◌+◌, ◌*◌, ◌<◌, ◌≤◌, Bool, false, List, [], ◌∷◌, ◌++◌, length, Some, None}
use Rattle.xp_packets.specs.declared.block.Block.{Block}
use Rattle.xp_packets.specs.declared.modulus.Modulus.{Modulus}
use Rattle.xp_packets.specs.declared.packet.Packet.{Packet}
use Rattle.xp_packets.specs.declared.packet.Packet.TheVariants.{Call, Accepted, Clear, ClearConfirm, DataPacket, Ready, NotReady, Reject, Interrupt, InterruptConfirm, Reset, ResetConfirm}
use Rattle.xp_packets.specs.declared.kind.Kind.TheVariants as kinds
use Rattle.xp_packets.specs.Digits.{SpellsAddresses}
use Rattle.xp_packets.specs.Heading.{Begins}
use Rattle.xp_packets.specs.Kinds.{octet_of}
use Rattle.xp_packets.specs.Numbers.{numbers, data_octets, flow_octets}

-- The facility length octet, the facilities, and user data up to the packet's end (clause 5.2.2).
abbrev pub WritesFields : List ℕ → List ℕ → List ℕ → Type 0
WritesFields [] facilities user = ⊥
WritesFields (size ∷ rest) facilities user =
    (size ≡ length facilities) × (rest ≡ facilities ++ user) × (length facilities ≤ 109) × (length user ≤ 128)

-- The same; or the packet ends after the digits, and has neither facilities nor user data.
abbrev pub SpellsFields : List ℕ → List ℕ → List ℕ → Type 0
SpellsFields [] facilities user = (facilities ≡ []) × (user ≡ [])
SpellsFields (size ∷ rest) facilities user = WritesFields (size ∷ rest) facilities user

-- A block: one octet with the calling length in bits 8 to 5 and the called length in bits 4 to 1, the digits, and
-- then the fields that `Fields` describes (clauses 5.2.1 and 5.2.2).
pub record BlockBy (Fields : List ℕ → List ℕ → List ℕ → Type 0) (A : Type 0) (octets : List ℕ) (block : Block A) : Type 0 where
  pub digits : List ℕ
  pub rest : List ℕ
  pub whole : octets ≡ (16 * length block.calling + length block.called) ∷ (digits ++ rest)
  pub addresses : SpellsAddresses digits block.called block.calling
  pub fields : Fields rest block.facilities block.user

-- what bit 1 of octet 4 of a flow control packet modulo 128 may be: anything where it is read, zero where it is written
abbrev pub AnySpare : Bool → Type 0
AnySpare spare = Unit {0}

abbrev pub ZeroSpare : Bool → Type 0
ZeroSpare spare = spare ≡ false

-- The octets spell the identifier and the packet, where `Fields` says what follows the digits of a block, and `Spare`
-- what a spare bit may be.
abbrev pub SpellsBy : {A : Type 0} → (List ℕ → List ℕ → List ℕ → Type 0) → (Bool → Type 0) → Modulus → List ℕ → ℕ → Packet A → Type 0
SpellsBy {A} Fields Spare modulus octets identifier (Call d block) =
    (rest : List ℕ) × Begins modulus octets false d identifier (octet_of kinds.Call ∷ rest) × BlockBy Fields A rest block
SpellsBy {A} Fields Spare modulus octets identifier (Accepted d None) =
    Begins modulus octets false d identifier (octet_of kinds.Accepted ∷ [])
SpellsBy {A} Fields Spare modulus octets identifier (Accepted d (Some block)) =
    (rest : List ℕ) × Begins modulus octets false d identifier (octet_of kinds.Accepted ∷ rest) × BlockBy Fields A rest block
SpellsBy {A} Fields Spare modulus octets identifier (Clear cause None None) =
    Begins modulus octets false false identifier (octet_of kinds.Clear ∷ cause ∷ [])
SpellsBy {A} Fields Spare modulus octets identifier (Clear cause None (Some block)) = ⊥
SpellsBy {A} Fields Spare modulus octets identifier (Clear cause (Some diagnostic) None) =
    Begins modulus octets false false identifier (octet_of kinds.Clear ∷ cause ∷ diagnostic ∷ [])
SpellsBy {A} Fields Spare modulus octets identifier (Clear cause (Some diagnostic) (Some block)) =
    (rest : List ℕ) × Begins modulus octets false false identifier (octet_of kinds.Clear ∷ cause ∷ diagnostic ∷ rest) × BlockBy Fields A rest block
SpellsBy {A} Fields Spare modulus octets identifier (ClearConfirm None) =
    Begins modulus octets false false identifier (octet_of kinds.ClearConfirm ∷ [])
SpellsBy {A} Fields Spare modulus octets identifier (ClearConfirm (Some block)) =
    (rest : List ℕ) × Begins modulus octets false false identifier (octet_of kinds.ClearConfirm ∷ rest) × BlockBy Fields A rest block × (block.user ≡ [])
SpellsBy {A} Fields Spare modulus octets identifier (DataPacket q d more ps pr carried) =
    Begins modulus octets q d identifier (data_octets modulus ps pr more ++ carried) × (ps < numbers modulus) × (pr < numbers modulus) × (length carried ≤ 1024)
SpellsBy {A} Fields Spare modulus octets identifier (Ready pr) =
    (spare : Bool) × Spare spare × Begins modulus octets false false identifier (flow_octets modulus pr kinds.Ready spare) × (pr < numbers modulus)
SpellsBy {A} Fields Spare modulus octets identifier (NotReady pr) =
    (spare : Bool) × Spare spare × Begins modulus octets false false identifier (flow_octets modulus pr kinds.NotReady spare) × (pr < numbers modulus)
SpellsBy {A} Fields Spare modulus octets identifier (Reject pr) =
    (spare : Bool) × Spare spare × Begins modulus octets false false identifier (flow_octets modulus pr kinds.Reject spare) × (pr < numbers modulus)
SpellsBy {A} Fields Spare modulus octets identifier (Interrupt carried) =
    Begins modulus octets false false identifier (octet_of kinds.Interrupt ∷ carried) × (0 < length carried) × (length carried ≤ 32)
SpellsBy {A} Fields Spare modulus octets identifier InterruptConfirm =
    Begins modulus octets false false identifier (octet_of kinds.InterruptConfirm ∷ [])
SpellsBy {A} Fields Spare modulus octets identifier (Reset cause None) =
    Begins modulus octets false false identifier (octet_of kinds.Reset ∷ cause ∷ [])
SpellsBy {A} Fields Spare modulus octets identifier (Reset cause (Some diagnostic)) =
    Begins modulus octets false false identifier (octet_of kinds.Reset ∷ cause ∷ diagnostic ∷ [])
SpellsBy {A} Fields Spare modulus octets identifier ResetConfirm =
    Begins modulus octets false false identifier (octet_of kinds.ResetConfirm ∷ [])

-- The octets spell the identifier and the packet on a line of this modulus.
abbrev pub Spells : {A : Type 0} → Modulus → List ℕ → ℕ → Packet A → Type 0
Spells modulus octets identifier packet = SpellsBy SpellsFields AnySpare modulus octets identifier packet

-- They do, every block has both its address length octet and its facility length octet, and every spare bit is zero.
abbrev pub WrittenAs : {A : Type 0} → Modulus → List ℕ → ℕ → Packet A → Type 0
WrittenAs modulus octets identifier packet = SpellsBy WritesFields ZeroSpare modulus octets identifier packet
