-- The two directions of a call as they are stored, and what a packet of one of its ends does to them.
use Rattle.std.specs.Prelude.{◌≡◌, List}
use Rattle.xp_packets.specs.declared.end.End.{End}
use Rattle.xp_relay.specs.declared.moves.Move.{Move}
use Rattle.xp_relay.specs.Coupled.{Coupled, after, turn_at}
use Rattle.xp_relay.specs.Direction.{Direction}
use Rattle.xp_relay.specs.StoredDirection.{StoredDirection, Represents}
use Rattle.xp_relay.specs.Turns.{Turn}

-- the two directions, as they are stored
pub record StoredDirections (A : Type 0) : Type 0 where
  pub from_caller : StoredDirection A
  pub from_called : StoredDirection A

module _ {A : Type 0} where
  -- the stored directions represent this call
  pub record RepresentsCall (k : StoredDirections A) (call : Coupled A) : Type 0 where
    pub from_caller : Represents k.from_caller call.from_caller
    pub from_called : Represents k.from_called call.from_called

  -- the stored directions after a packet of this end, and the moves, are as the turn says
  pub record Follows (here : End) (turn : Direction A → Direction A → Turn A) (call : Coupled A) (new : StoredDirections A) (made : List (Move A)) : Type 0 where
    pub shown : RepresentsCall new (after here (turn_at here turn call))
    pub moves : made ≡ (turn_at here turn call).moves
