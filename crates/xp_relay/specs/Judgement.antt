-- The decision on a data packet, by its numbers and its length: the first of the cases below that applies.
use Rattle.std.specs.Prelude.{ℕ, ◌^◌, ◌==◌, nat_lt, Bool, not, ◌&&◌, if◌then◌else◌, is_none}
use Rattle.xp_relay.specs.declared.judged.Judged.{Judged}
use Rattle.xp_relay.specs.declared.judged.Judged.TheVariants.{Accept, Discard, Reset}
use Rattle.xp_relay.specs.declared.terms.DirectionTerms.{DirectionTerms}
use Rattle.xp_causes.specs.declared.diagnostic.TheConstants.{INVALID_SEND_NUMBER, INVALID_RECEIVE_NUMBER, PACKET_TOO_LONG}
use Rattle.xp_relay.specs.Direction.{Direction, next_number, has_room, acknowledged_count}

-- the packet size, in octets (X.25 clause 4.3.2)
abbrev pub most_octets : DirectionTerms → ℕ
most_octets way = 2 ^ way.size

-- P(S) is the next number, and within the window (clauses 4.4.1.1 and 4.4.1.2)
abbrev pub is_awaited : {A : Type 0} → ℕ → Direction A → Bool
is_awaited ps sent = ps == next_number sent && has_room sent

-- The decision on a data packet with P(S), P(R) and this many octets. Its end sends the direction `sent` and receives
-- the direction `received`. While that end owes a reset confirmation, its data packets are dropped (clause 4.4.3.2).
abbrev pub judgement : {A : Type 0} → ℕ → ℕ → ℕ → Direction A → Direction A → Judged
judgement ps pr octets sent received =
    if received.owes then Discard
    else (if not (is_awaited ps sent) then Reset INVALID_SEND_NUMBER
    else (if is_none (acknowledged_count pr received) then Reset INVALID_RECEIVE_NUMBER
    else (if nat_lt (most_octets sent.terms) octets then Reset PACKET_TOO_LONG
    else Accept)))
