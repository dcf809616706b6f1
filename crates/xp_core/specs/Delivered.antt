-- In each direction of a connected call the data arrives: each packet once, in order, unchanged (X.25 clause 4.4.1). What
-- comes and what is put out is read from the entries of the history.
use Rattle.std.specs.Prelude.{◌≡◌, ℕ, ◌==◌, if◌then◌else◌, Option, None, Some, List, [], ◌∷◌, flat_map, map}
use Rattle.xp_packets.specs.declared.end.End.{End}
use Rattle.xp_packets.specs.declared.end.End.TheVariants.{Caller, Called}
use Rattle.xp_packets.specs.declared.packet.Packet.{Packet}
use Rattle.xp_relay.specs.declared.moves.Move.{Move}
use Rattle.xp_relay.specs.Direction.{to}
use Rattle.xp_relay.specs.Observed.{AreInterruptsDelivered, IsDelivered, IsTold, observed}
use Rattle.xp_relay.specs.Runs.{Arrival, Handled}
use Rattle.xp_subs.specs.Tables.{Tables}
use Rattle.xp_step.specs.declared.entry.Entry.{Entry}
use Rattle.xp_step.specs.declared.event.Event.{Event}
use Rattle.xp_step.specs.declared.output.Output.{Output}
use Rattle.xp_step.specs.declared.output.Put.{Put}
use Rattle.xp_step.specs.declared.output.Put.TheVariants.{Send, Close}
use Rattle.xp_machine.specs.declared.agreement.Agreement.{Agreement}
use Rattle.xp_step.specs.RelayedPackets.{directions, relay_terms}
use Rattle.xp_step.specs.Table.{packet_in}
use Rattle.xp_machine.specs.World.{Call, World, call_numbered}
use Rattle.xp_core.specs.Records.{Connects, Moment}

-- which end of a call a line is, if it is one
abbrev pub end_at : Call → ℕ → Option End
end_at call line = if call.caller == line then Some Caller else (if call.called == line then Some Called else None)

module _ {A : Type 0} where
  -- a packet of an end
  abbrev pub arrival_of : Option End → Option (Packet A) → Option (Arrival A)
  arrival_of (Some here) (Some packet) = Some (record { here = here; packet = packet })
  arrival_of (Some here) None = None
  arrival_of None packet = None

  -- the packet that an event brings from a line of a call, if it brings one
  abbrev pub came_in : Call → Event A → Option (Arrival A)
  came_in call event = arrival_of (end_at call event.line) (packet_in event.what)

  -- what is put out to an end, if it is a packet
  abbrev pub move_to : Option End → Put A → List (Move A)
  move_to (Some side) (Send identifier packet) = to side packet ∷ []
  move_to (Some side) Close = []
  move_to None put = []

  -- the packets that are put out to the lines of a call
  abbrev pub put_out_to : Call → List (Output A) → List (Move A)
  put_out_to call outputs = flat_map (λ output. move_to (end_at call output.line) output.outgoing.put) outputs

  -- what an entry is for a call: the packet that came from one of its lines, and what was put out to both
  abbrev pub handled_in : Call → Entry A → Handled A
  handled_in call entry = record { came = came_in call entry.event; moves = put_out_to call entry.outputs }

  -- The call of this number was connected at one place of the history. Of the entries since then, in each direction, all
  -- this holds: the receiver's line was put out what the sender's line sent, the sender's line is told, and the interrupts
  -- arrive.
  pub record IsCarried (tables : Tables) (history : List (Entry A)) (number : ℕ) (call : Call) (agreement : Agreement) : Type 0 where
    pub connecting : Moment tables history
    pub connects : Connects connecting number
    pub delivered : (sender : End) → IsDelivered (relay_terms tables call agreement) sender (directions tables history number call agreement)
        (observed (relay_terms tables call agreement) sender (map (handled_in call) connecting.rest))
    pub told : (sender : End) → IsTold (relay_terms tables call agreement) sender
        (observed (relay_terms tables call agreement) sender (map (handled_in call) connecting.rest))
    pub interrupts : (sender : End) → AreInterruptsDelivered (observed (relay_terms tables call agreement) sender (map (handled_in call) connecting.rest))

-- each connected call carries so what its lines send
abbrev pub AreDelivered : {A : Type 0} → Tables → List (Entry A) → World → Type 0
AreDelivered tables history world =
    (number : ℕ) (call : Call) (agreement : Agreement) → call_numbered world number ≡ Some call → call.agreed ≡ Some agreement
    → IsCarried tables history number call agreement
