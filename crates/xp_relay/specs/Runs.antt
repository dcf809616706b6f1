-- Whole runs of a call: the packets of its ends, and what they lead to.
use Rattle.std.specs.Prelude.{Option, Some, List, [], ◌∷◌}
use Rattle.xp_packets.specs.declared.end.End.{End}
use Rattle.xp_packets.specs.declared.packet.Packet.{Packet}
use Rattle.xp_relay.specs.declared.moves.Move.{Move}
use Rattle.xp_relay.specs.Coupled.{Coupled, after, turn_at}
use Rattle.xp_relay.specs.Turns.{Turn, turn_of}

-- a packet that comes from an end
pub record Arrival (A : Type 0) : Type 0 where
  pub here : End
  pub packet : Packet A

-- A packet that came from an end, if one came, and the packets that were put out to both ends then.
pub record Handled (A : Type 0) : Type 0 where
  pub came : Option (Arrival A)
  pub moves : List (Move A)

module _ {A : Type 0} where
  -- what a packet leads to
  abbrev pub turn_on : Coupled A → Arrival A → Turn A
  turn_on call arrival = turn_at arrival.here (turn_of arrival.here arrival.packet) call

  -- the call after packets
  abbrev pub run : Coupled A → List (Arrival A) → Coupled A
  run call [] = call
  run call (arrival ∷ rest) = run (after arrival.here (turn_on call arrival)) rest

  -- these packets, each with what was put out then
  abbrev pub handled_over : Coupled A → List (Arrival A) → List (Handled A)
  handled_over call [] = []
  handled_over call (arrival ∷ rest) =
      record { came = Some arrival; moves = (turn_on call arrival).moves } ∷ handled_over (after arrival.here (turn_on call arrival)) rest
