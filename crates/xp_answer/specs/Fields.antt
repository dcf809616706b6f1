-- Which packets can be sent.
use Rattle.std.specs.Prelude.{ℕ, ◌≤◌, length, IfSome}
use Rattle.xp_packets.specs.Encodability.{CanBeEncoded, block_of}
use Rattle.xp_packets.specs.declared.modulus.Modulus.{Modulus}
use Rattle.xp_packets.specs.declared.packet.Packet.{Packet}

module _ {A : Type 0} where
  -- The packet can be encoded for every line, with every identifier of twelve bits, and its facility field has at most
  -- 107 octets.
  pub record CanBeSent (packet : Packet A) : Type 0 where
    pub fit : (modulus : Modulus) (identifier : ℕ) → identifier ≤ 4095 → CanBeEncoded modulus identifier packet
    pub most : IfSome (block_of packet) (λ block. length block.facilities ≤ 107)
