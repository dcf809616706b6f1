-- Why a connection is not taken.
use Rattle.std.specs.Prelude.{List}
use Rattle.std.specs.Net.Socket.{socket_ip}
use Rattle.xp_tcp.specs.Admissions.{Admits}
use Rattle.xp_tcp.specs.declared.own_port.NotTaken.{NotTaken}
use Rattle.xp_tcp.specs.declared.own_port.NotTaken.TheVariants.{Failed, NoSocket, Stranger}
use Rattle.xp_tcp.specs.declared.source.Source.{Source}

-- a stranger is a peer that may not come
abbrev pub IsReason : List Source → NotTaken → Type 0
IsReason sources (Stranger peer) = Admits sources (socket_ip peer) → ⊥
IsReason sources (Failed error) = Unit {0}
IsReason sources NoSocket = Unit {0}
