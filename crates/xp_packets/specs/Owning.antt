-- Which packets hold octets, and so may need memory.
use Rattle.std.specs.Prelude.{Bool, true, false, is_some}
use Rattle.xp_packets.specs.declared.packet.Packet.{Packet}
use Rattle.xp_packets.specs.declared.packet.Packet.TheVariants.{Call, Accepted, Clear, ClearConfirm, DataPacket, Interrupt}

-- whether the packet has a block, data or interrupt data
abbrev pub owns_octets : {A : Type 0} → Packet A → Bool
owns_octets (Call d block) = true
owns_octets (Accepted d block) = is_some block
owns_octets (Clear cause diagnostic block) = is_some block
owns_octets (ClearConfirm block) = is_some block
owns_octets (DataPacket q d more ps pr octets) = true
owns_octets (Interrupt octets) = true
owns_octets _ = false
