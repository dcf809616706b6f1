-- What an operator is to know of the lines' connections.
use Rattle.std.specs.Prelude.{ℕ, Option, None, Some}
use Rattle.xp_door.specs.declared.notices.Notice.{Notice}
use Rattle.xp_door.specs.declared.notices.Notice.TheVariants.{CallCleared, Closed, Connected, DoorFailing, DoorWorks, Down, EndedEarly, HasOne, MoreRefused, NoCaller, NoFrame, NoFraming, NoFreeLine, NoRoom, NoRouter, NotConnected, PortFailing, PortWorks, Refused, Replaced, Up}

-- the line that a notice is of; none where it is of the port for routers
abbrev pub line_of : Notice → Option ℕ
line_of (Refused line peer) = Some line
line_of (HasOne line peer) = Some line
line_of (MoreRefused line count) = Some line
line_of (Replaced line peer) = Some line
line_of (Up line peer) = Some line
line_of (Down line reason) = Some line
line_of (Connected line peer) = Some line
line_of (Closed line) = Some line
line_of (NotConnected line fault) = Some line
line_of (CallCleared line call) = Some line
line_of (PortFailing line) = Some line
line_of (PortWorks line) = Some line
line_of (NoRouter peer) = None
line_of (NoFreeLine peer) = None
line_of (NoCaller peer) = None
line_of (NoRoom peer) = None
line_of (NoFrame peer) = None
line_of (NoFraming peer) = None
line_of (EndedEarly peer) = None
line_of DoorFailing = None
line_of DoorWorks = None
