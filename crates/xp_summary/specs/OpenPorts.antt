-- Which ports of lines anybody may connect to.
use Rattle.std.specs.Prelude.{◌≡◌, ◌==◌, ◌⊎◌, ℕ, List, Bool, true, false, ◌&&◌, IsTrue, codes, length}
use Rattle.std.specs.Net.Addr.{IsLoopbackV4, IsLoopbackV6, MatchIp}
use Rattle.std.specs.Net.Grammar.{IsIpText}
use Rattle.std.specs.declared.net.ip_addr.IpAddr.{IpAddr}
use Rattle.xp_file.specs.declared.entry.Access.{Access}
use Rattle.xp_file.specs.declared.entry.Access.TheVariants.{Port, Router, Spare}
use Rattle.xp_subs.specs.declared.line.Line.{Line}
use Rattle.xp_subs.specs.Tables.{Tables, line_at}

-- an address of this machine alone
abbrev pub IsLoopback : IpAddr → Type 0
IsLoopback address = MatchIp address IsLoopbackV4 IsLoopbackV6

-- the text of such an address
abbrev pub HasLoopbackAddress : List ℕ → Type 0
HasLoopbackAddress host = (address : IpAddr) × IsIpText host address × IsLoopback address

-- `localhost`, or the text of such an address
abbrev pub IsLoopbackHost : List ℕ → Type 0
IsLoopbackHost host = (host ≡ codes "localhost") ⊎ HasLoopbackAddress host

-- a port of the line's own
abbrev pub is_port : Access → Bool
is_port (Port port) = true
is_port (Router router) = false
is_port Spare = false

-- the line has a port, and no `from`
abbrev pub has_open_port : Line → Bool
has_open_port line = is_port line.access && (length line.from == 0)

-- so does this line, and the host of the file is not this machine alone
abbrev pub IsOpen : Tables → ℕ → Type 0
IsOpen tables line = IsTrue (has_open_port (line_at tables line)) × (IsLoopbackHost tables.host → ⊥)
