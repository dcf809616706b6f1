-- Where the connections of a line are to come from.
use Rattle.std.specs.Prelude.{◌≡◌, ◌<◌, ℕ, List, Option, None, Some}
use Rattle.std.specs.declared.net.socket_addr.SocketAddr.{SocketAddr}
use Rattle.xp_door.specs.declared.choosing.Caller.{Caller}
use Rattle.xp_tcp.specs.Accesses.{Origin, AtPort, Behind, Spare}
use Rattle.xp_tcp.specs.declared.line_sockets.LineSource.{LineSource}
use Rattle.xp_tcp.specs.declared.line_sockets.LineSource.TheVariants as sources
use Rattle.xp_tcp.specs.declared.next_line.NextSource.{NextSource}
use Rattle.xp_tcp.specs.declared.next_line.NextSource.TheVariants as next
use Rattle.xp_tcp.specs.declared.own_port.OwnPort.{OwnPort}
use Rattle.xp_tcp.specs.declared.source.Source.{Source}

abbrev pub source_origin : LineSource → Origin
source_origin (sources.Own port listener admission) = AtPort port admission
source_origin (sources.Router router caller) = Behind router caller
source_origin sources.Spare = Spare

abbrev pub next_origin : NextSource → Origin
next_origin (next.Own port admission socket) = AtPort port admission
next_origin (next.Router router caller) = Behind router caller
next_origin next.Spare = Spare

-- a port of the line's own, for these sources: the one that was asked for, or where that is 0, any
abbrev pub IsListening : ℕ → List Source → Origin → Type 0
IsListening asked admitted line = (port : ℕ) × (line ≡ AtPort port admitted) × (0 < asked → port ≡ asked)

-- what a line has of this source: a port of its own with its sources, or a router with what its calls are matched with, or neither
abbrev pub IsParted : LineSource → OwnPort → Option (SocketAddr × Caller) → Type 0
IsParted (sources.Own port listener admission) own router = (own.port ≡ port) × (own.admission ≡ admission) × (router ≡ None)
IsParted (sources.Router router caller) own parted = parted ≡ Some (router, caller)
IsParted sources.Spare own router = router ≡ None
