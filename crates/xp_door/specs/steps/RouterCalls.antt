-- The call request that a packet is.
use Rattle.std.specs.Prelude.{◌≡◌, ℕ, List, Option, None, Some}
use Rattle.std.specs.declared.alloc.Global.{Global as Alloc}
use Rattle.std.specs.declared.net.ip_addr.IpAddr.{IpAddr}
use Rattle.xp_door.specs.RouterCalls.{IsCall, SpellsCall}
use Rattle.xp_door.specs.declared.router_call.RouterCall.{RouterCall}
use Rattle.xp_packets.specs.declared.block.Block.{Block}
use Rattle.xp_packets.specs.declared.modulus.Modulus.{Modulus}
use Rattle.xp_packets.specs.declared.packet.Packet.{Packet}
use Rattle.xp_packets.specs.declared.packet.Packet.TheVariants.{Accepted, Call, Clear, ClearConfirm, DataPacket, Interrupt, InterruptConfirm, NotReady, Ready, Reject, Reset, ResetConfirm}

-- on this logical channel, from this peer; none where the packet is another
abbrev pub call_in : Modulus → ℕ → IpAddr → Packet Alloc → Option RouterCall
call_in modulus identifier peer (Call d block) =
    Some (record { peer = peer; modulus = modulus; identifier = identifier; calling = block.calling })
call_in modulus identifier peer (Accepted d block) = None
call_in modulus identifier peer (Clear cause diagnostic block) = None
call_in modulus identifier peer (ClearConfirm block) = None
call_in modulus identifier peer (DataPacket q d more ps pr octets) = None
call_in modulus identifier peer (Ready pr) = None
call_in modulus identifier peer (NotReady pr) = None
call_in modulus identifier peer (Reject pr) = None
call_in modulus identifier peer (Interrupt octets) = None
call_in modulus identifier peer InterruptConfirm = None
call_in modulus identifier peer (Reset cause diagnostic) = None
call_in modulus identifier peer ResetConfirm = None

-- of a packet of one modulus; none where it is no call request
abbrev pub IsCallBy : Modulus → IpAddr → List ℕ → Option RouterCall → Type 0
IsCallBy modulus peer octets (Some call) = (call.modulus ≡ modulus) × IsCall peer octets call
IsCallBy modulus peer octets None = (identifier : ℕ) (block : Block Alloc) → SpellsCall modulus octets identifier block → ⊥
