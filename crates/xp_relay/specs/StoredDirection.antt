-- How a direction is stored: numbers in place of counts, and only those packets that the receiver was not sent yet.
use Rattle.std.specs.Prelude.{◌≡◌, ℕ, ◌-◌, ◌%◌, Bool, List, drop}
use Rattle.xp_packets.specs.Numbers.{numbers}
use Rattle.xp_relay.specs.declared.data.Data.{Data}
use Rattle.xp_relay.specs.declared.data.Interruption.{Interruption}
use Rattle.xp_relay.specs.declared.terms.DirectionTerms.{DirectionTerms}
use Rattle.xp_relay.specs.Direction.{Direction, IsSound}

pub record StoredDirection (A : Type 0) : Type 0 where
  pub terms : DirectionTerms
  -- P(R) to the sender
  pub pr : ℕ
  -- the number of the oldest unacknowledged packet on the receiver's line
  pub oldest : ℕ
  -- how many packets the receiver was sent and has not acknowledged
  pub out : ℕ
  -- the packets that wait, oldest first
  pub held : List (Data A)
  pub interrupt : Interruption A
  pub ready : Bool
  pub owes : Bool

module _ {A : Type 0} where
  -- the stored form of a direction
  abbrev pub stored : Direction A → StoredDirection A
  stored d = record {
    terms = d.terms;
    pr = d.acknowledged % numbers d.terms.sender;
    oldest = d.acknowledged % numbers d.terms.receiver;
    out = d.put - d.acknowledged;
    held = drop d.put d.accepted;
    interrupt = d.interrupt;
    ready = d.ready;
    owes = d.owes;
  }

  -- the stored state represents this direction, whose counts are in order
  pub record Represents (k : StoredDirection A) (d : Direction A) : Type 0 where
    pub shown : k ≡ stored d
    pub sound : IsSound d
