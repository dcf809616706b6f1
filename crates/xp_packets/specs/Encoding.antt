-- The errors of encoding.
use Rattle.std.specs.Prelude.{◌≡◌, Option, Some, None}
use Rattle.xp_packets.specs.declared.fault.Malformed.{Malformed}
use Rattle.xp_packets.specs.declared.fault.PacketFault.{PacketFault}
use Rattle.xp_packets.specs.declared.fault.PacketFault.TheVariants as faults

-- The error gives the first reason why no octets spell the packet. It is out of memory only where there is no such
-- reason.
abbrev pub Refuses : PacketFault → Option Malformed → Type 0
Refuses (faults.Malformed wrong) reason = reason ≡ Some wrong
Refuses faults.Memory reason = reason ≡ None
