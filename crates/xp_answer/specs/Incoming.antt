-- The incoming call packet (X.25 clauses 4.1.3 and 5.2.2).
use Rattle.std.specs.Prelude.{◌≡◌, ℕ, Bool, List}
use Rattle.xp_decide.specs.declared.verdict.IncomingCall.{IncomingCall}
use Rattle.xp_facilities.specs.Indicated.{Indicates}
use Rattle.xp_packets.specs.declared.block.Block.{Block}
use Rattle.xp_packets.specs.declared.packet.Packet.{Packet}
use Rattle.xp_packets.specs.declared.packet.Packet.TheVariants.{Call}

module _ {A : Type 0} where
  -- The packet has the addresses of the called and the calling line, the facilities for the line that rings, and the
  -- D bit and the user data of the call request.
  pub record IsIncomingCall (ring : IncomingCall A) (called calling : List ℕ) (d : Bool) (block : Block A) (packet : Packet A) : Type 0 where
    pub field : List ℕ
    pub tells : Indicates ring.told field
    pub whole : packet ≡ Call d (record { called = called; calling = calling; facilities = field; user = block.user })
