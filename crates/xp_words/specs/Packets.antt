-- Packets in words (X.25 clause 5).
use Rattle.std.specs.Prelude.{ℕ, codes, false, if◌then◌else◌, Bool, List, [], ◌∷◌, ◌++◌, Option, None, Some}
use Rattle.std.specs.Fmt.{decimal}
use Rattle.xp_packets.specs.Digits.{text_of}
use Rattle.xp_packets.specs.declared.block.Block.{Block}
use Rattle.xp_packets.specs.declared.packet.Packet.{Packet}
use Rattle.xp_packets.specs.declared.packet.Packet.TheVariants.{Call, Accepted, Clear, ClearConfirm, DataPacket, Ready, NotReady, Reject, Interrupt, InterruptConfirm, Reset, ResetConfirm}
use Rattle.xp_words.specs.Causes.{cause_text, diagnostic_text}
use Rattle.xp_words.specs.Facilities.{field_text}
use Rattle.xp_words.specs.Names.{clearing_causes, resetting_causes}
use Rattle.xp_words.specs.Octets.{both_texts, hex_pair, octets_text}
use Rattle.xp_words.specs.declared.direction.Direction.{Direction}
use Rattle.xp_words.specs.declared.direction.Direction.TheVariants.{FromDte, FromDce}

-- an address behind a preposition, if there are digits
abbrev pub address_text : List ℕ → List ℕ → List ℕ
address_text preposition [] = []
address_text preposition (digit ∷ digits) = preposition ++ text_of (digit ∷ digits)

-- the name of a bit that is set
abbrev pub bit_text : List ℕ → Bool → List ℕ
bit_text name set = if set then name else []

abbrev pub user_text : List ℕ → List ℕ
user_text [] = []
user_text (octet ∷ octets) = codes ", user data " ++ both_texts (octet ∷ octets)

abbrev pub optional_diagnostic_text : Option ℕ → List ℕ
optional_diagnostic_text None = []
optional_diagnostic_text (Some diagnostic) = codes ", diagnostic " ++ diagnostic_text diagnostic

-- ` P(S)=2 P(R)=3 M`: the numbers, and the bits that are set
abbrev pub numbers_text : Bool → Bool → Bool → ℕ → ℕ → List ℕ
numbers_text q d more ps pr =
    codes " P(S)=" ++ decimal ps ++ codes " P(R)=" ++ decimal pr ++ bit_text (codes " Q") q ++ bit_text (codes " D") d ++ bit_text (codes " M") more

module _ {A : Type 0} where
  -- the name of its type, by who sends it (table 5-2)
  abbrev pub type_name : Direction → Packet A → List ℕ
  type_name FromDte (Call d block) = codes "call request"
  type_name FromDce (Call d block) = codes "incoming call"
  type_name FromDte (Accepted d block) = codes "call accepted"
  type_name FromDce (Accepted d block) = codes "call connected"
  type_name FromDte (Clear cause diagnostic block) = codes "clear request"
  type_name FromDce (Clear cause diagnostic block) = codes "clear indication"
  type_name direction (ClearConfirm block) = codes "clear confirmation"
  type_name direction (DataPacket q d more ps pr octets) = codes "data"
  type_name direction (Ready pr) = codes "RR"
  type_name direction (NotReady pr) = codes "RNR"
  type_name direction (Reject pr) = codes "REJ"
  type_name direction (Interrupt octets) = codes "interrupt"
  type_name direction InterruptConfirm = codes "interrupt confirmation"
  type_name FromDte (Reset cause diagnostic) = codes "reset request"
  type_name FromDce (Reset cause diagnostic) = codes "reset indication"
  type_name direction ResetConfirm = codes "reset confirmation"

  -- ` from 2080010 to 2080020 D, window 3/3, user data 01000000 "...."`
  abbrev pub block_text : Bool → Block A → List ℕ
  block_text d block =
      address_text (codes " from ") block.calling ++ address_text (codes " to ") block.called ++ bit_text (codes " D") d
      ++ field_text block.facilities ++ user_text block.user

  abbrev pub optional_block_text : Bool → Option (Block A) → List ℕ
  optional_block_text d None = bit_text (codes " D") d
  optional_block_text d (Some block) = block_text d block

  -- what the packet says, behind the name of its type
  abbrev pub body_text : Packet A → List ℕ
  body_text (Call d block) = block_text d block
  body_text (Accepted d block) = optional_block_text d block
  body_text (Clear cause diagnostic block) =
      codes ", cause " ++ cause_text clearing_causes cause ++ optional_diagnostic_text diagnostic ++ optional_block_text false block
  body_text (ClearConfirm block) = optional_block_text false block
  body_text (DataPacket q d more ps pr octets) = numbers_text q d more ps pr ++ codes ", " ++ octets_text octets
  body_text (Ready pr) = codes " P(R)=" ++ decimal pr
  body_text (NotReady pr) = codes " P(R)=" ++ decimal pr
  body_text (Reject pr) = codes " P(R)=" ++ decimal pr
  body_text (Interrupt octets) = codes ", " ++ octets_text octets
  body_text InterruptConfirm = []
  body_text (Reset cause diagnostic) = codes ", cause " ++ cause_text resetting_causes cause ++ optional_diagnostic_text diagnostic
  body_text ResetConfirm = []

  abbrev pub packet_text : Direction → Packet A → List ℕ
  packet_text direction packet = type_name direction packet ++ body_text packet

  -- what fits a column of a diagram, behind the name of its type
  abbrev pub short_body_text : Packet A → List ℕ
  short_body_text (Call d block) = address_text (codes " ") block.called
  short_body_text (Clear cause None block) = codes " " ++ hex_pair cause
  short_body_text (Clear cause (Some diagnostic) block) = codes " " ++ hex_pair cause ++ codes "/" ++ decimal diagnostic
  short_body_text (DataPacket q d more ps pr octets) = numbers_text q d more ps pr
  short_body_text (Ready pr) = codes " P(R)=" ++ decimal pr
  short_body_text (NotReady pr) = codes " P(R)=" ++ decimal pr
  short_body_text (Reject pr) = codes " P(R)=" ++ decimal pr
  short_body_text (Reset cause None) = codes " " ++ hex_pair cause
  short_body_text (Reset cause (Some diagnostic)) = codes " " ++ hex_pair cause ++ codes "/" ++ decimal diagnostic
  short_body_text _ = []

  abbrev pub short_packet_text : Direction → Packet A → List ℕ
  short_packet_text direction packet = type_name direction packet ++ short_body_text packet
