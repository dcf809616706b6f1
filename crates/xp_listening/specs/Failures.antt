-- What is told where lines are not served to the end, and the exit status.
use Rattle.std.specs.Prelude.{◌≡◌, ℕ, ◌<◌, List, true}
use Rattle.std.specs.Net.Grammar.{IsIpText}
use Rattle.std.specs.declared.net.ip_addr.IpAddr.{IpAddr}
use Rattle.xp_file.specs.declared.entry.Access.{Access}
use Rattle.xp_file.specs.declared.entry.Access.TheVariants as access
use Rattle.xp_subs.specs.Tables.{Tables, has_routers, line_at, line_count}
use Rattle.xp_listening.specs.Hosts.{HasNoAddress, IsNoHost}
use Rattle.xp_listening.specs.declared.failure.ServeFailure.{ServeFailure}
use Rattle.xp_listening.specs.declared.failure.ServeFailure.TheVariants.{Host, From, Router, Port, XotPort, Journal, Thread, Memory, Output, Details}
use Rattle.xp_keeping.specs.declared.keep_fault.KeepFault.{KeepFault}
use Rattle.xp_keeping.specs.declared.keep_fault.KeepFault.TheVariants as faults

-- 4 for want of room, 5 for input and output
abbrev pub status_of : ServeFailure → ℕ
status_of Host = 5
status_of (From name) = 5
status_of (Router name) = 5
status_of (Port name) = 5
status_of XotPort = 5
status_of Journal = 4
status_of Thread = 4
status_of Memory = 4
status_of Output = 5
status_of Details = 5

abbrev pub name_at : Tables → ℕ → List ℕ
name_at tables line = (line_at tables line).name

-- the name of a line
abbrev pub IsLineName : Tables → List ℕ → Type 0
IsLineName tables name = (line : ℕ) × (line < line_count tables) × (name ≡ name_at tables line)

-- the name of a line of which a source is no address
abbrev pub IsNameOfStrange : Tables → List ℕ → Type 0
IsNameOfStrange tables name =
    (line : ℕ) × (line < line_count tables) × (name ≡ name_at tables line) × HasNoAddress (line_at tables line).from

-- the router of this access has no address
abbrev pub IsBehindStrange : Access → Type 0
IsBehindStrange (access.Port port) = ⊥
IsBehindStrange access.Spare = ⊥
IsBehindStrange (access.Router router) = (address : IpAddr) → IsIpText router.address address → ⊥

-- the name of a line whose router has no address
abbrev pub IsNameBehindStrange : Tables → List ℕ → Type 0
IsNameBehindStrange tables name =
    (line : ℕ) × (line < line_count tables) × (name ≡ name_at tables line) × IsBehindStrange (line_at tables line).access

-- why no line was served: the host, or a source or the router of a line, is no address, or a line's port, that for routers, or
-- memory, is wanting
abbrev pub IsWanting : Tables → ServeFailure → Type 0
IsWanting tables Host = IsNoHost tables.host
IsWanting tables (From name) = IsNameOfStrange tables name
IsWanting tables (Router name) = IsNameBehindStrange tables name
IsWanting tables (Port name) = IsLineName tables name
IsWanting tables XotPort = has_routers tables ≡ true
IsWanting tables Memory = Unit {0}
IsWanting tables failure = ⊥

-- what is told where not all charging records were kept
abbrev pub failure_to_keep : KeepFault → ServeFailure
failure_to_keep faults.Memory = Memory
failure_to_keep faults.Output = Output
failure_to_keep faults.Details = Details
