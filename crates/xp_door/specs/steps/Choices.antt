-- What becomes of a connection whose first frame is looked at, and of the lines that it may be given to.
use Rattle.std.specs.Prelude.{ℕ, false, List, Option, None, Some}
use Rattle.std.specs.Net.Socket.{socket_ip}
use Rattle.std.specs.declared.alloc.Global.{Global as Alloc}
use Rattle.std.specs.declared.net.ip_addr.IpAddr.{IpAddr}
use Rattle.std.specs.declared.vec.Vec.{Vec}
use Rattle.xp_door.specs.Choices.{IsChoice, IsFirstFree}
use Rattle.xp_door.specs.Openings.{IsOpening}
use Rattle.xp_door.specs.RouterCalls.{IsCallOf}
use Rattle.xp_door.specs.declared.callers.Standing.{Standing}
use Rattle.xp_door.specs.declared.callers.Standing.TheVariants.{Calls, Over, Waits}
use Rattle.xp_door.specs.declared.choosing.Candidate.{Candidate}
use Rattle.xp_door.specs.declared.choosing.Choice.{Choice}
use Rattle.xp_door.specs.declared.choosing.Choice.TheVariants.{Line, NoCaller, NoFreeLine}
use Rattle.xp_door.specs.declared.opening.Opening.TheVariants.{Packet}
use Rattle.xp_door.specs.declared.routed_line.RoutedLine.{RoutedLine}
use Rattle.xp_door.specs.declared.router_call.RouterCall.{RouterCall}

-- where it is said to call, these octets open with a frame, and the call is that of its packet
abbrev pub IsStanding : IpAddr → List ℕ → Standing → Type 0
IsStanding peer octets Waits = Unit {0}
IsStanding peer octets (Calls call) = (packet : Vec ℕ Alloc) × IsOpening octets (Packet packet) × IsCallOf peer packet.items call
IsStanding peer octets (Over notice) = Unit {0}

-- a call is given to the line that is chosen for it, and what opens with none to the first line behind the router that is free
abbrev pub IsGiven : IpAddr → Option RouterCall → List Candidate → Choice → Type 0
IsGiven peer (Some call) candidates choice = IsChoice call candidates choice
IsGiven peer None candidates (Line place) = IsFirstFree peer candidates (Some place)
IsGiven peer None candidates NoFreeLine = IsFirstFree peer candidates None
IsGiven peer None candidates NoCaller = ⊥

-- a line as a choice sees it, before it is known whether it is free
abbrev pub candidate_of : RoutedLine → Candidate
candidate_of line = record { router = socket_ip line.router; caller = line.caller; is_free = false }
