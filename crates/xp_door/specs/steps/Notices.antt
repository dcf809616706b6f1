-- The text of a notice.
use Rattle.std.specs.Prelude.{ℕ, ◌+◌, Bool, true, false, List, [], ◌∷◌, ◌++◌, Option, None, Some, codes, decimal, map, min, nat_le, take, if◌then◌else◌}
use Rattle.std.specs.Net.Text.{socket_text}
use Rattle.xp_door.specs.declared.calls.ClearedCall.{ClearedCall}
use Rattle.xp_door.specs.declared.connect_fault.ConnectFault.{ConnectFault}
use Rattle.xp_door.specs.declared.connect_fault.ConnectFault.TheVariants as faults
use Rattle.xp_door.specs.declared.dialled.Dialled.{Dialled}
use Rattle.xp_door.specs.declared.down_reason.DownReason.{DownReason}
use Rattle.xp_door.specs.declared.down_reason.DownReason.TheVariants as reasons
use Rattle.xp_door.specs.declared.notices.Notice.{Notice}
use Rattle.xp_door.specs.declared.notices.Notice.TheVariants.{CallCleared, Closed, Connected, DoorFailing, DoorWorks, Down, EndedEarly, HasOne, MoreRefused, NoCaller, NoFrame, NoFraming, NoFreeLine, NoRoom, NoRouter, NotConnected, PortFailing, PortWorks, Refused, Replaced, Up}
use Rattle.xp_door.specs.declared.notice_words.Subject.{Subject}
use Rattle.xp_door.specs.declared.notice_words.Subject.TheVariants as subjects
use Rattle.xp_door.specs.declared.notice_words.Words.{Words}
use Rattle.xp_words.specs.Causes.{cause_text, diagnostic_text}
use Rattle.xp_words.specs.Names.{clearing_causes}

abbrev pub fault_text : ConnectFault → List ℕ
fault_text faults.Refused = codes "refused"
fault_text faults.Unreachable = codes "unreachable"
fault_text faults.NoAnswer = codes "no answer"
fault_text faults.NoSocket = codes "no socket"

abbrev pub reason_text : DownReason → List ℕ
reason_text reasons.Closed = codes "closed by the peer"
reason_text reasons.Reset = codes "reset by the peer"
reason_text (reasons.NoAnswer seconds) = codes "no answer for " ++ decimal seconds ++ codes " seconds"
reason_text reasons.Unreachable = codes "unreachable"
reason_text (reasons.Failed number) = codes "connection error " ++ decimal number
reason_text (reasons.Version version) = codes "no frame of RFC 1613 (version " ++ decimal version ++ codes " found)"
reason_text (reasons.Length length) = codes "no frame of RFC 1613 (length " ++ decimal length ++ codes " found)"
reason_text reasons.Replaced = codes "replaced by another connection"
reason_text reasons.GivenUp = codes "given up by the exchange"
reason_text reasons.Reload = codes "ended by a reload"

-- words, and where there is a number that and words after it
abbrev pub numbered_text : List ℕ → Option ℕ → List ℕ → List ℕ
numbered_text before None after = before
numbered_text before (Some number) after = before ++ (decimal number ++ after)

-- the digit that a half-octet is, or a question mark
abbrev pub glyph : ℕ → ℕ
glyph half = if nat_le half 9 then 48 + half else 63

abbrev pub halves_of : Dialled → List ℕ
halves_of dialled = take (min dialled.count 15) dialled.halves

abbrev pub halves_text : List ℕ → List ℕ
halves_text [] = codes "no address"
halves_text (half ∷ halves) = map glyph (half ∷ halves)

abbrev pub dialled_text : Dialled → List ℕ
dialled_text dialled = halves_text (halves_of dialled)

abbrev pub end_text : Bool → List ℕ
end_text true = codes "cleared"
end_text false = codes "refused"

abbrev pub why_text : ℕ → ℕ → List ℕ
why_text cause diagnostic = codes "cause " ++ (cause_text clearing_causes cause ++ (codes ", diagnostic " ++ diagnostic_text diagnostic))

abbrev pub cleared_text : ClearedCall → List ℕ
cleared_text call =
    codes "call to " ++ (dialled_text call.dialled ++ (codes " " ++ (end_text call.was_connected ++ (codes ": " ++ why_text call.cause call.diagnostic))))

-- the text of a notice, without its line
abbrev pub text_of : Notice → List ℕ
text_of (Refused line peer) = codes "connection from " ++ socket_text peer ++ codes " refused"
text_of (HasOne line peer) = codes "connection from " ++ socket_text peer ++ codes " refused: the line has one"
text_of (MoreRefused line count) = decimal count ++ codes " more connections refused"
text_of (Replaced line peer) = codes "replaced by a connection from " ++ socket_text peer
text_of (Up line peer) = codes "up from " ++ socket_text peer
text_of (Down line reason) = codes "down: " ++ reason_text reason
text_of (Connected line peer) = codes "connected to " ++ socket_text peer
text_of (Closed line) = codes "connection closed"
text_of (NotConnected line fault) = codes "no connection to the router: " ++ fault_text fault
text_of (CallCleared line call) = cleared_text call
text_of (PortFailing line) = codes "port fails: no connection can be accepted"
text_of (PortWorks line) = codes "port works again"
text_of (NoRouter peer) = codes "connection from " ++ socket_text peer ++ codes " refused: no line is behind this router"
text_of (NoFreeLine peer) = codes "connection from " ++ socket_text peer ++ codes " refused: no line is free"
text_of (NoCaller peer) = codes "call from " ++ socket_text peer ++ codes " refused: no line is of its calling address"
text_of (NoRoom peer) = codes "connection from " ++ socket_text peer ++ codes " refused: too many wait for their first frame"
text_of (NoFrame peer) = codes "connection from " ++ socket_text peer ++ codes " closed: no whole frame came in 10 seconds"
text_of (NoFraming peer) = codes "connection from " ++ socket_text peer ++ codes " closed: no frame of RFC 1613"
text_of (EndedEarly peer) = codes "connection from " ++ socket_text peer ++ codes " ended before its first frame was whole"
text_of DoorFailing = codes "port fails: no connection can be accepted"
text_of DoorWorks = codes "port works again"

abbrev pub subject_text : Subject → List ℕ
subject_text (subjects.Peer peer) = socket_text peer
subject_text (subjects.Count count) = decimal count
subject_text (subjects.Reason reason) = reason_text reason
subject_text (subjects.Fault fault) = fault_text fault
subject_text (subjects.Call call) = cleared_text call
subject_text subjects.Nothing = []

-- words, what they tell of, and words after that
abbrev pub words_text : Words → List ℕ
words_text words = words.0.now ++ (subject_text words.1 ++ words.2.now)
