-- What is put out.
use Rattle.std.specs.Prelude.{ℕ, Option, None, Some, List, [], ◌∷◌, ◌++◌, map}
use Rattle.xp_answer.specs.Information.{cleared_with, confirmed_with}
use Rattle.xp_charge.specs.FarEnd.{far_end as other_end}
use Rattle.xp_facilities.specs.declared.charging_information.ChargingInformation.{ChargingInformation}
use Rattle.xp_packets.specs.declared.packet.Packet.{Packet}
use Rattle.xp_packets.specs.declared.packet.Packet.TheVariants.{Clear}
use Rattle.xp_relay.specs.declared.moves.Move.{Move}
use Rattle.xp_subs.specs.Tables.{Tables}
use Rattle.xp_step.specs.declared.entry.Entry.{Entry}
use Rattle.xp_step.specs.declared.output.Output.{Output}
use Rattle.xp_step.specs.declared.output.Put.TheVariants.{Send, Close}
use Rattle.xp_step.specs.RelayedPackets.{RelayedPacket, turn_of_relayed}
use Rattle.xp_machine.specs.CallEnds.{end_of, line_at_end}
use Rattle.xp_machine.specs.Channel.{INITIAL_IDENTIFIER}
use Rattle.xp_machine.specs.Information.{information_for}
use Rattle.xp_step.specs.Segments.{segments_of}
use Rattle.xp_step.specs.StepContext.{StepContext}
use Rattle.xp_machine.specs.World.{Call, World, far_end, line_at}
use Rattle.xp_causes.specs.declared.refusal.Refusal.{Refusal}

-- the outputs of an event: what a call carries to its two lines, and what goes to the line of the event, to the far end
-- of its call, and to a line that a new call is put to
pub record EventOutputs (A : Type 0) : Type 0 where
  pub carried : List (Output A)
  pub own : List (Output A)
  pub far : List (Output A)
  pub taken : List (Output A)

module _ {A : Type 0} where
  -- all of them, in this order
  abbrev pub outputs_of : EventOutputs A → List (Output A)
  outputs_of told = told.carried ++ told.own ++ told.far ++ told.taken

  abbrev pub no_outputs : EventOutputs A
  no_outputs = record { carried = []; own = []; far = []; taken = [] }

  -- a packet to a line, with this identifier
  abbrev pub send_as : World → ℕ → ℕ → Packet A → Output A
  send_as world line identifier packet =
      record { line = line; outgoing = record { connection = (line_at world line).connection; put = Send identifier packet } }

  abbrev pub send : World → ℕ → Packet A → Output A
  send world line packet = send_as world line (line_at world line).identifier packet

  -- the line's connection is to be closed
  abbrev pub close : World → ℕ → Output A
  close world line = record { line = line; outgoing = record { connection = (line_at world line).connection; put = Close } }

  -- the clear indication packet (X.25 clause 5.2.4)
  abbrev pub clear_indication : ℕ → ℕ → Packet A
  clear_indication cause diagnostic = Clear cause (Some diagnostic) None

  -- an incoming call to a line that is taken, and these outputs to a far end
  abbrev pub outputs_of_incoming_call : World → List (Output A) → ℕ → Packet A → EventOutputs A
  outputs_of_incoming_call world far called packet = record { carried = []; own = []; far = far; taken = send_as world called INITIAL_IDENTIFIER packet ∷ [] }

  -- the refusal of a call request with its identifier, and these outputs to a far end
  abbrev pub outputs_of_refusal : World → List (Output A) → ℕ → ℕ → Refusal → EventOutputs A
  outputs_of_refusal world far line identifier why = record {
    carried = [];
    own = send_as world line identifier (clear_indication why.cause why.diagnostic) ∷ [];
    far = far;
    taken = [];
  }

  -- a packet to the far end of the call that a line is in, if it is in one
  abbrev pub send_far : World → ℕ → Option (ℕ × Call) → Packet A → List (Output A)
  send_far world line None packet = []
  send_far world line (Some found) packet = send world (far_end found.1 line) packet ∷ []

  -- ---- with charging information, where a line is to have it as the call that the line of an event is in ends

  -- for that line
  abbrev pub own_information : StepContext A → Option (ℕ × Call) → Option ChargingInformation
  own_information at None = None
  own_information at (Some found) = information_for found.1 (segments_of at.tables at.before found.0 found.1) at.moment (end_of found.1 at.line)

  -- for its far end
  abbrev pub far_information : StepContext A → Option (ℕ × Call) → Option ChargingInformation
  far_information at None = None
  far_information at (Some found) = information_for found.1 (segments_of at.tables at.before found.0 found.1) at.moment (other_end (end_of found.1 at.line))

  abbrev pub clear_own : StepContext A → Option (ℕ × Call) → ℕ → ℕ → Output A
  clear_own at found cause diagnostic = send at.world at.line (cleared_with cause diagnostic (own_information at found))

  abbrev pub clear_far : StepContext A → Option (ℕ × Call) → ℕ → ℕ → List (Output A)
  clear_far at found cause diagnostic = send_far at.world at.line found (cleared_with cause diagnostic (far_information at found))

  abbrev pub confirm_own : StepContext A → Option (ℕ × Call) → Output A
  confirm_own at found = send at.world at.line (confirmed_with (own_information at found))

  -- ---- what a call carries

  -- a packet that a call carries to its line at an end
  abbrev pub send_on : World → Call → Move A → Output A
  send_on world call move = send world (line_at_end call move.side) move.packet

  -- what a packet for a connected call leads to, if there is one
  abbrev pub outputs_of_relayed : Tables → List (Entry A) → World → Option (RelayedPacket A) → EventOutputs A
  outputs_of_relayed tables before world None = no_outputs
  outputs_of_relayed tables before world (Some carried) =
      record no_outputs { carried = map (send_on world carried.call) (turn_of_relayed tables before carried).moves }
