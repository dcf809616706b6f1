-- The column of the table of actions for each kind of packet, and for a frame that is not a packet.
use Rattle.xp_packets.specs.declared.fault.Malformed.{Malformed}
use Rattle.xp_packets.specs.declared.packet.Packet.{Packet}
use Rattle.xp_packets.specs.declared.packet.Packet.TheVariants as packets
use Rattle.xp_packets.specs.Diagnostics.{diagnostic_of}
use Rattle.xp_channel.specs.declared.kind.EventKind.{EventKind}
use Rattle.xp_channel.specs.declared.kind.EventKind.TheVariants as kinds

abbrev pub kind_of : {A : Type 0} → Packet A → EventKind
kind_of (packets.Call d block) = kinds.Call
kind_of (packets.Accepted d block) = kinds.Accepted
kind_of (packets.Clear cause diagnostic block) = kinds.Clear
kind_of (packets.ClearConfirm block) = kinds.ClearConfirm
kind_of (packets.DataPacket q d more ps pr octets) = kinds.Relayed
kind_of (packets.Ready pr) = kinds.Relayed
kind_of (packets.NotReady pr) = kinds.Relayed
kind_of (packets.Reject pr) = kinds.Relayed
kind_of (packets.Interrupt octets) = kinds.Relayed
kind_of packets.InterruptConfirm = kinds.Relayed
kind_of (packets.Reset cause diagnostic) = kinds.Relayed
kind_of packets.ResetConfirm = kinds.Relayed

abbrev pub kind_of_malformed : Malformed → EventKind
kind_of_malformed wrong = kinds.Malformed (diagnostic_of wrong)
