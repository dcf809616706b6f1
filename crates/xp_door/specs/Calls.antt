-- The calls that a line asks for, by the packets that pass on its connection (X.25 clause 5.2).
use Rattle.std.specs.Prelude.{ℕ, ◌/◌, ◌%◌, ◌==◌, ◌&&◌, ◌||◌, Bool, true, false, List, [], ◌∷◌, Option, None, Some, nat_lt, slice_index, take, if◌then◌else◌}
use Rattle.xp_door.specs.declared.calls.AskedCall.{AskedCall}
use Rattle.xp_door.specs.declared.calls.ClearedCall.{ClearedCall}
use Rattle.xp_door.specs.declared.dialled.Dialled.{Dialled}

-- the half-octets of octets, the high half first
abbrev pub half_octets : List ℕ → List ℕ
half_octets [] = []
half_octets (octet ∷ octets) = octet / 16 ∷ octet % 16 ∷ half_octets octets

-- The called address of a call request: so many half-octets as the fourth octet tells in its low half, of those from the fifth octet
-- on. What is not there counts as 0.
abbrev pub dialled_by : List ℕ → Dialled
dialled_by packet = record {
  halves = take 15 (half_octets (slice_index packet 4 ∷ slice_index packet 5 ∷ slice_index packet 6 ∷ slice_index packet 7 ∷ slice_index packet 8 ∷ slice_index packet 9 ∷ slice_index packet 10 ∷ slice_index packet 11 ∷ []));
  count = slice_index packet 3 % 16;
}

-- the type of a packet, of which the third octet tells
abbrev pub type_of : List ℕ → ℕ
type_of packet = slice_index packet 2

-- after a packet from the peer: a call request asks for a call, and where a clear was confirmed there is none
abbrev pub after_received : Option AskedCall → List ℕ → Option AskedCall
after_received call packet =
    if type_of packet == 0x0b then Some (record { dialled = dialled_by packet; is_connected = false })
    else if type_of packet == 0x17 then None else call

-- after a packet to the peer: the call is connected, or there is none any more, by an incoming call, a clear or its confirmation
abbrev pub after_sent : Option AskedCall → List ℕ → Option AskedCall
after_sent None packet = None
after_sent (Some call) packet =
    if type_of packet == 0x0f then Some (record { dialled = call.dialled; is_connected = true })
    else if type_of packet == 0x0b || type_of packet == 0x13 || type_of packet == 0x17 then None else Some call

-- a clearing cause of the exchange, and not of the other station: that is 00, or 80 and up
abbrev pub is_fault : ℕ → Bool
is_fault cause = nat_lt 0 cause && nat_lt cause 0x80

-- what is told as a packet goes to the peer: the call, where it is a clear indication with such a cause
abbrev pub told_of : Option AskedCall → List ℕ → Option ClearedCall
told_of None packet = None
told_of (Some call) packet =
    if type_of packet == 0x13 && is_fault (slice_index packet 3)
    then Some (record { dialled = call.dialled; was_connected = call.is_connected; cause = slice_index packet 3; diagnostic = slice_index packet 4 })
    else None
