-- The kinds of events that the table of actions tells apart, and what the actions need from their packets.
use Rattle.std.specs.Prelude.{ℕ, Bool, Option, None, Some}
use Rattle.xp_channel.specs.declared.action.Action.{Action}
use Rattle.xp_channel.specs.declared.action.Action.TheVariants.{Nothing}
use Rattle.xp_channel.specs.declared.channel.Channel.{Channel}
use Rattle.xp_channel.specs.declared.kind.EventKind.TheVariants as kinds
use Rattle.xp_channel.specs.Kinds.{kind_of as packet_kind, kind_of_malformed}
use Rattle.xp_channel.specs.Table.{cell}
use Rattle.xp_packets.specs.declared.block.Block.{Block}
use Rattle.xp_packets.specs.declared.packet.Packet.{Packet}
use Rattle.xp_packets.specs.declared.packet.Packet.TheVariants as packets
use Rattle.xp_step.specs.declared.event.Event.{Event}
use Rattle.xp_step.specs.declared.event.What.{What}
use Rattle.xp_step.specs.declared.event.What.TheVariants as events
use Rattle.xp_machine.specs.Channel.{channel_of}
use Rattle.xp_machine.specs.World.{World, state_at}

pub record CallRequest (A : Type 0) : Type 0 where
  pub identifier : ℕ
  pub d : Bool
  pub block : Block A

pub record CallAccepted (A : Type 0) : Type 0 where
  pub d : Bool
  pub block : Option (Block A)

pub record ClearRequest (A : Type 0) : Type 0 where
  pub cause : ℕ
  pub diagnostic : Option ℕ
  pub block : Option (Block A)

module _ {A : Type 0} where
  -- The action for an event of a line in this state: that of the table (Annex C). A line that is given up as too slow goes
  -- out of service like one whose connection is lost. A reload is no event of a line, and nothing happens on any.
  abbrev pub action_in : Channel → What A → Action
  action_in state events.Up = cell state kinds.Up
  action_in state events.Down = cell state kinds.Down
  action_in state (events.Frame identifier packet) = cell state (packet_kind packet)
  action_in state (events.WrongFrame wrong) = cell state (kind_of_malformed wrong)
  action_in state events.Expire = cell state kinds.Expire
  action_in state events.Stall = cell state kinds.Down
  action_in state events.Reload = Nothing

  abbrev pub action_at : World → Event A → Action
  action_at world event = action_in (channel_of (state_at world event.line)) event.what

  -- the call request in an event, if it is one
  abbrev pub request_in : What A → Option (CallRequest A)
  request_in (events.Frame identifier (packets.Call d block)) = Some (record { identifier = identifier; d = d; block = block })
  request_in what = None

  -- the call accepted packet in an event, if it is one
  abbrev pub accepted_in : What A → Option (CallAccepted A)
  accepted_in (events.Frame identifier (packets.Accepted d block)) = Some (record { d = d; block = block })
  accepted_in what = None

  -- the clear request in an event, if it is one
  abbrev pub clear_in : What A → Option (ClearRequest A)
  clear_in (events.Frame identifier (packets.Clear cause diagnostic block)) =
      Some (record { cause = cause; diagnostic = diagnostic; block = block })
  clear_in what = None

  -- the packet in an event, if it is one
  abbrev pub packet_in : What A → Option (Packet A)
  packet_in (events.Frame identifier packet) = Some packet
  packet_in events.Up = None
  packet_in events.Down = None
  packet_in (events.WrongFrame wrong) = None
  packet_in events.Expire = None
  packet_in events.Stall = None
  packet_in events.Reload = None
