-- One direction of a call: the packets that were accepted from its sender, and what happened to them.
use Rattle.std.specs.Prelude.{ℕ, suc, zero, ◌+◌, ◌-◌, ◌≤◌, ◌%◌, ◌==◌, nat_lt, Bool, true, false, not, ◌&&◌, if◌then◌else◌, List, [], ◌∷◌, length, drop, Option, Some, None}
use Rattle.xp_packets.specs.Numbers.{numbers}
use Rattle.xp_packets.specs.declared.end.End.{End}
use Rattle.xp_packets.specs.declared.end.End.TheVariants.{Caller, Called}
use Rattle.xp_packets.specs.declared.packet.Packet.{Packet}
use Rattle.xp_packets.specs.declared.packet.Packet.TheVariants.{DataPacket}
use Rattle.xp_relay.specs.declared.data.Data.{Data}
use Rattle.xp_relay.specs.declared.data.Interruption.{Interruption}
use Rattle.xp_relay.specs.declared.data.Interruption.TheVariants.{Idle}
use Rattle.xp_relay.specs.declared.moves.Move.{Move}
use Rattle.xp_relay.specs.declared.terms.DirectionTerms.{DirectionTerms}
use Rattle.xp_relay.specs.Terms.{AreDirectionTerms}

-- a list of moves, with room for more
pub record Made (A : Type 0) : Type 0 where
  -- the moves so far, in order
  pub moves : List (Move A)
  -- how many more moves there is room for
  pub room : ℕ

pub record Direction (A : Type 0) : Type 0 where
  pub terms : DirectionTerms
  -- the packets accepted from the sender since the call was last reset, oldest first
  pub accepted : List (Data A)
  -- how many of them the receiver was sent
  pub put : ℕ
  -- how many of those the receiver acknowledged
  pub acknowledged : ℕ
  -- the state of the sender's interrupt
  pub interrupt : Interruption A
  -- the receiver is ready for data
  pub ready : Bool
  -- the receiver owes a reset confirmation
  pub owes : Bool

-- the other end
abbrev pub far : End → End
far Caller = Called
far Called = Caller

-- the first count with this number: it is `count` or one of the next `more`
abbrev pub first_count : ℕ → ℕ → ℕ → ℕ → Option ℕ
first_count modulus number count zero = if count % modulus == number then Some count else None
first_count modulus number count (suc more) =
    if count % modulus == number then Some count else first_count modulus number (suc count) more

-- a packet for an end
abbrev pub to : {A : Type 0} → End → Packet A → Move A
to side packet = record { side = side; packet = packet }

-- Data packets to an end, with this P(R). P(S) counts on from `count`, modulo the numbers of its line (X.25 clause
-- 4.4.1.1).
abbrev pub numbered : {A : Type 0} → End → ℕ → ℕ → ℕ → List (Data A) → List (Move A)
numbered side modulus pr count [] = []
numbered side modulus pr count (x ∷ rest) =
    to side (DataPacket x.q x.d x.more (count % modulus) pr x.octets) ∷ numbered side modulus pr (suc count) rest

-- a direction of a call that was just set up: nothing was accepted yet, and the receiver is ready
abbrev pub opening : {A : Type 0} → DirectionTerms → Direction A
opening way =
    record { terms = way; accepted = []; put = 0; acknowledged = 0; interrupt = Idle; ready = true; owes = false }

module _ {A : Type 0} where
  -- P(S) of the next packet from the sender (clause 4.4.1.1)
  abbrev pub next_number : Direction A → ℕ
  next_number d = length d.accepted % numbers d.terms.sender

  -- the window lets the sender send one more packet (clause 4.4.1.2)
  abbrev pub has_room : Direction A → Bool
  has_room d = nat_lt (length d.accepted - d.acknowledged) d.terms.window

  -- P(R) to the sender: it counts what the receiver acknowledged (clauses 4.4.1.3 and 4.3.3)
  abbrev pub received_number : Direction A → ℕ
  received_number d = d.acknowledged % numbers d.terms.sender

  -- The count that a P(R) of the receiver stands for. It is no less than what the receiver acknowledged before, and no
  -- more than what it was sent (clause 4.4.1.3).
  abbrev pub acknowledged_count : ℕ → Direction A → Option ℕ
  acknowledged_count number d = first_count (numbers d.terms.receiver) number d.acknowledged (d.put - d.acknowledged)

  -- the receiver takes data: it is ready, and owes no reset confirmation
  abbrev pub is_open : Direction A → Bool
  is_open d = d.ready && not d.owes

  -- the receiver is sent all that was accepted
  abbrev pub put_all : Direction A → Direction A
  put_all d = record d { put = length d.accepted }

  -- the receiver is sent all that was accepted, where it takes data
  abbrev pub release : Direction A → Direction A
  release d = if is_open d then put_all d else d

  -- the data packets that it is sent by that, with this P(R)
  abbrev pub released : End → ℕ → Direction A → List (Move A)
  released receiver pr d =
      if is_open d then numbered receiver (numbers d.terms.receiver) pr d.put (drop d.put d.accepted) else []

  -- a direction after a reset: it is empty, and its receiver owes a reset confirmation or none (clause 4.4.3)
  abbrev pub emptied : Bool → Direction A → Direction A
  emptied owes d = record (opening d.terms) { owes = owes }

  -- The counts are in order: what was acknowledged was sent, what was sent was accepted, and no more than a window is
  -- unacknowledged.
  pub record IsSound (d : Direction A) : Type 0 where
    pub terms : AreDirectionTerms d.terms
    pub acknowledged : d.acknowledged ≤ d.put
    pub put : d.put ≤ length d.accepted
    pub window : length d.accepted ≤ d.acknowledged + d.terms.window
