-- Octets spell one packet at most, so a packet is one call request or none.
use Rattle.std.proofs.Common.{◌≡◌, ◌⊎◌, ℕ, List, Option, None, Some, Result, Ok, Err, IfOk, inl, inr, refl, sym, ◌∙◌}
use Rattle.std.specs.declared.alloc.AllocError.{AllocError}
use Rattle.std.specs.declared.alloc.Global.{Global as Alloc}
use Rattle.std.specs.declared.net.ip_addr.IpAddr.{IpAddr}
use Rattle.xp_door.specs.RouterCalls.{IsCallOf, SpellsCall}
use Rattle.xp_door.specs.declared.router_call.RouterCall.{RouterCall}
use Rattle.xp_door.specs.steps.RouterCalls.{IsCallBy, call_in}
use Rattle.xp_packets.specs.Examination.{IsMalformed}
use Rattle.xp_packets.specs.Laws.{AreOctets, EitherSpelledOrMalformed, IsOnlyMalformed, SpellsOnly}
use Rattle.xp_packets.specs.Spelling.{Spells}
use Rattle.xp_packets.specs.declared.block.Block.{Block}
use Rattle.xp_packets.specs.declared.fault.Malformed.{Malformed}
use Rattle.xp_packets.specs.declared.modulus.Modulus.{Modulus}
use Rattle.xp_packets.specs.declared.modulus.Modulus.TheVariants.{Eight, Long}
use Rattle.xp_packets.specs.declared.packet.Packet.{Packet}
use Rattle.xp_packets.specs.declared.packet.Packet.TheVariants.{Accepted, Call, Clear, ClearConfirm, DataPacket, Interrupt, InterruptConfirm, NotReady, Ready, Reject, Reset, ResetConfirm}

-- two packets that the same octets spell are one
one_packet : EitherSpelledOrMalformed Alloc → (modulus : Modulus) (octets : List ℕ) → AreOctets octets
    → (identifier other : ℕ) (packet another : Packet Alloc) → Spells modulus octets identifier packet → Spells modulus octets other another → another ≡ packet
one_packet law modulus octets are identifier other packet another spelled so = by (law modulus octets are) where
  by : ((identifier : ℕ) × (packet : Packet Alloc) × SpellsOnly Alloc modulus octets identifier packet) ⊎ ((wrong : Malformed) × IsOnlyMalformed Alloc modulus octets wrong) → another ≡ packet
  by (inl only) = (only.2.only other another so).1 ∙ sym (only.2.only identifier packet spelled).1
  by (inr wrong) = absurd (wrong.1.unspelled identifier packet spelled)

-- what the packet is that the octets spell, they are
pub call_by : EitherSpelledOrMalformed Alloc → (modulus : Modulus) (octets : List ℕ) → AreOctets octets
    → (peer : IpAddr) (identifier : ℕ) (packet : Packet Alloc) → Spells modulus octets identifier packet
    → IsCallBy modulus peer octets (call_in modulus identifier peer packet)
call_by law modulus octets are peer identifier (Call d block) spelled =
    (refl, record { block = block; spelled = (d, spelled); calling = refl; peer_is = refl })
call_by law modulus octets are peer identifier (Accepted d block) spelled = λ other called so.
    cc (one_packet law modulus octets are identifier other (Accepted d block) (Call so.0 called) spelled so.1)
call_by law modulus octets are peer identifier (Clear cause diagnostic block) spelled = λ other called so.
    cc (one_packet law modulus octets are identifier other (Clear cause diagnostic block) (Call so.0 called) spelled so.1)
call_by law modulus octets are peer identifier (ClearConfirm block) spelled = λ other called so.
    cc (one_packet law modulus octets are identifier other (ClearConfirm block) (Call so.0 called) spelled so.1)
call_by law modulus octets are peer identifier (DataPacket q d more ps pr carried) spelled = λ other called so.
    cc (one_packet law modulus octets are identifier other (DataPacket q d more ps pr carried) (Call so.0 called) spelled so.1)
call_by law modulus octets are peer identifier (Ready pr) spelled = λ other called so.
    cc (one_packet law modulus octets are identifier other (Ready pr) (Call so.0 called) spelled so.1)
call_by law modulus octets are peer identifier (NotReady pr) spelled = λ other called so.
    cc (one_packet law modulus octets are identifier other (NotReady pr) (Call so.0 called) spelled so.1)
call_by law modulus octets are peer identifier (Reject pr) spelled = λ other called so.
    cc (one_packet law modulus octets are identifier other (Reject pr) (Call so.0 called) spelled so.1)
call_by law modulus octets are peer identifier (Interrupt carried) spelled = λ other called so.
    cc (one_packet law modulus octets are identifier other (Interrupt carried) (Call so.0 called) spelled so.1)
call_by law modulus octets are peer identifier InterruptConfirm spelled = λ other called so.
    cc (one_packet law modulus octets are identifier other InterruptConfirm (Call so.0 called) spelled so.1)
call_by law modulus octets are peer identifier (Reset cause diagnostic) spelled = λ other called so.
    cc (one_packet law modulus octets are identifier other (Reset cause diagnostic) (Call so.0 called) spelled so.1)
call_by law modulus octets are peer identifier ResetConfirm spelled = λ other called so.
    cc (one_packet law modulus octets are identifier other ResetConfirm (Call so.0 called) spelled so.1)

-- malformed octets are no call request
pub none_malformed : EitherSpelledOrMalformed Alloc → (modulus : Modulus) (octets : List ℕ) → AreOctets octets
    → (wrong : Malformed) → IsMalformed modulus octets wrong → (identifier : ℕ) (block : Block Alloc) → SpellsCall modulus octets identifier block → ⊥
none_malformed law modulus octets are wrong is identifier block spelled = by (law modulus octets are) where
  by : ((identifier : ℕ) × (packet : Packet Alloc) × SpellsOnly Alloc modulus octets identifier packet) ⊎ ((wrong : Malformed) × IsOnlyMalformed Alloc modulus octets wrong) → ⊥
  by (inl only) = only.2.right wrong is
  by (inr other) = other.1.unspelled identifier (Call spelled.0 block) spelled.1

-- a packet that is no call request modulo 8 is what it is modulo 128
pub by_either : (peer : IpAddr) (octets : List ℕ) (result : Result (Option RouterCall) AllocError)
    → IsCallBy Eight peer octets None → IfOk result (IsCallBy Long peer octets) → IfOk result (IsCallOf peer octets)
by_either peer octets (Ok (Some call)) none is = is.1
by_either peer octets (Ok None) none is = neither where
  neither : (modulus : Modulus) (identifier : ℕ) (block : Block Alloc) → SpellsCall modulus octets identifier block → ⊥
  neither Eight = none
  neither Long = is
by_either peer octets (Err fault) none is = tt
