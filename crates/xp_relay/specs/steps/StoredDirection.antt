-- What the crate's own functions promise one another about stored directions: the invariant of a stored direction, and
-- that the two stored directions of a call represent a turn.
use Rattle.std.specs.Prelude.{◌≡◌, ℕ, ◌+◌, ◌<◌, ◌≤◌, List}
use Rattle.xp_packets.specs.Numbers.{numbers}
use Rattle.xp_relay.specs.declared.moves.Move.{Move}
use Rattle.xp_relay.specs.declared.terms.DirectionTerms.{DirectionTerms}
use Rattle.xp_relay.specs.Terms.{AreDirectionTerms}
use Rattle.xp_relay.specs.Turns.{Turn}
use Rattle.xp_relay.specs.StoredDirection.{StoredDirection, Represents}

-- The invariant. Numbers are below their line's modulus, no more than a window is unacknowledged, and the queue has
-- room for a whole window.
pub record IsValidStorage (way : DirectionTerms) (pr oldest out held capacity : ℕ) : Type 0 where
  pub terms : AreDirectionTerms way
  pub sent_back : pr < numbers way.sender
  pub awaited : oldest < numbers way.receiver
  pub few : out + held ≤ way.window
  pub room : way.window ≤ capacity

module _ {A : Type 0} where
  -- the two stored directions after a packet, and the moves that it led to, represent this turn
  pub record RepresentsTurn (from into : StoredDirection A) (made : List (Move A)) (turn : Turn A) : Type 0 where
    pub sent : Represents from turn.sent
    pub received : Represents into turn.received
    pub moves : made ≡ turn.moves
