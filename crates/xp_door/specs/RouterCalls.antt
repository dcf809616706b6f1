-- The calls that routers bring, and how they are refused.
use Rattle.std.specs.Prelude.{◌≡◌, ℕ, Bool, List, Option, None, Some}
use Rattle.std.specs.declared.alloc.Global.{Global as Alloc}
use Rattle.std.specs.declared.net.ip_addr.IpAddr.{IpAddr}
use Rattle.xp_causes.specs.declared.refusal.Refusal.{Refusal}
use Rattle.xp_door.specs.declared.router_call.RouterCall.{RouterCall}
use Rattle.xp_frames.specs.Frame.{frame}
use Rattle.xp_packets.specs.Spelling.{Spells}
use Rattle.xp_packets.specs.Writing.{written}
use Rattle.xp_packets.specs.declared.block.Block.{Block}
use Rattle.xp_packets.specs.declared.modulus.Modulus.{Modulus}
use Rattle.xp_packets.specs.declared.packet.Packet.TheVariants.{Call, Clear}

-- the octets spell a call request of this modulus, with this block
abbrev pub SpellsCall : Modulus → List ℕ → ℕ → Block Alloc → Type 0
SpellsCall modulus octets identifier block = (d : Bool) × Spells {A = Alloc} modulus octets identifier (Call d block)

-- the call request that a packet is, from a peer
pub record IsCall (peer : IpAddr) (octets : List ℕ) (call : RouterCall) : Type 0 where
  pub block : Block Alloc
  pub spelled : SpellsCall call.modulus octets call.identifier block
  pub calling : call.calling ≡ block.calling
  pub peer_is : call.peer ≡ peer

-- of a packet of either modulus
abbrev pub IsCallOf : IpAddr → List ℕ → Option RouterCall → Type 0
IsCallOf peer octets (Some call) = IsCall peer octets call
IsCallOf peer octets None = (modulus : Modulus) (identifier : ℕ) (block : Block Alloc) → SpellsCall modulus octets identifier block → ⊥

-- the frame of the clear indication with the refusal's cause and diagnostic, of the call's modulus and on its logical channel
abbrev pub IsRefusal : RouterCall → Refusal → List ℕ → Type 0
IsRefusal call refusal octets =
    octets ≡ frame (written {A = Alloc} call.modulus call.identifier (Clear refusal.cause (Some refusal.diagnostic) None))
