-- The addresses that a packet carries (X.25 clause 5.2.1).
use Rattle.std.specs.Prelude.{ℕ, ◌≤◌, List, length, Option, Some, None}
use Rattle.xp_packets.specs.declared.block.Block.{Block}
use Rattle.xp_packets.specs.declared.packet.Packet.{Packet}
use Rattle.xp_packets.specs.Digits.{AreDigits}
use Rattle.xp_packets.specs.Encodability.{block_of}

-- both addresses have at most 15 digits, each 0 to 9
pub record AreAddresses (called calling : List ℕ) : Type 0 where
  pub called_most : length called ≤ 15
  pub calling_most : length calling ≤ 15
  pub called_digits : AreDigits called
  pub calling_digits : AreDigits calling

-- the same of the addresses of a block, if there is one
abbrev pub BlockHasAddresses : {A : Type 0} → Option (Block A) → Type 0
BlockHasAddresses None = Unit {0}
BlockHasAddresses (Some block) = AreAddresses block.called block.calling

-- the same of the addresses in a packet's block; the type of an address guarantees it
abbrev pub HasAddresses : {A : Type 0} → Packet A → Type 0
HasAddresses packet = BlockHasAddresses (block_of packet)
