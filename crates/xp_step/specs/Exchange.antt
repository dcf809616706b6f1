-- What a serial exchange shows, and what one step of it does.
use Rattle.std.specs.Prelude.{◌≡◌, ℕ, ◌≤◌, List, [], ◌∷◌, ◌++◌, length}
use Rattle.xp_packets.specs.Encodability.{CanBeEncoded}
use Rattle.xp_packets.specs.declared.modulus.Modulus.TheVariants.{Long}
use Rattle.xp_packets.specs.declared.packet.Packet.{Packet}
use Rattle.xp_packets.specs.declared.packet.Packet.TheVariants.{Call}
use Rattle.xp_charge.specs.declared.record.Record.{Record}
use Rattle.xp_subs.specs.Tables.{Tables}
use Rattle.xp_step.specs.declared.entry.Entry.{Entry}
use Rattle.xp_step.specs.declared.event.Event.{Event}
use Rattle.xp_step.specs.declared.event.What.{What}
use Rattle.xp_step.specs.declared.event.What.TheVariants.{Up, Down, Frame, WrongFrame, Expire, Stall, Reload}
use Rattle.xp_step.specs.Worlds.{world_after}
use Rattle.xp_step.specs.Step.{Step}
use Rattle.xp_machine.specs.World.{World}

pub record Exchange (A : Type 0) : Type 0 where
  pub subs : Tables
  pub history : List (Entry A)
  -- the charging records that were handed over, and those that wait, in the order in which the calls ended
  pub given : List Record
  pub waiting : List Record
  -- how many stalls are prepared
  pub stalls : ℕ

module _ {A : Type 0} where
  -- the state that its history leads to
  abbrev pub world_of : Exchange A → World
  world_of exchange = world_after exchange.subs exchange.history

  -- a call request dials at most 15 digits
  abbrev pub DialsFew : Packet A → Type 0
  DialsFew (Call d block) = length block.called ≤ 15
  DialsFew packet = Unit {0}

  -- Some octets encode the identifier and the packet: on a line that numbers modulo 128, if on no other. That few digits
  -- are dialled follows from their type.
  pub record CanBeRead (identifier : ℕ) (packet : Packet A) : Type 0 where
    pub encodable : CanBeEncoded Long identifier packet
    pub few : DialsFew packet

  -- the packet of a frame can be read
  abbrev pub IsReadable : What A → Type 0
  IsReadable (Frame identifier packet) = CanBeRead identifier packet
  IsReadable Up = Unit {0}
  IsReadable Down = Unit {0}
  IsReadable (WrongFrame wrong) = Unit {0}
  IsReadable Expire = Unit {0}
  IsReadable Stall = Unit {0}
  IsReadable Reload = Unit {0}

  -- the history grows by this entry, which is of this event and a step. Its records wait until they are handed over.
  pub record Advances (old : Exchange A) (event : Event A) (new : Exchange A) (entry : Entry A) : Type 0 where
    pub event_is : entry.event ≡ event
    pub step : Step old.subs old.history (world_of old) entry (world_of new)
    pub history : new.history ≡ old.history ++ entry ∷ []
    pub subs : new.subs ≡ old.subs
    pub given : new.given ≡ old.given
    pub waiting : new.waiting ≡ old.waiting ++ entry.records.items
