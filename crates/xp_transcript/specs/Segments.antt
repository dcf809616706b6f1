-- The entries of a history as segments of a capture file.
use Rattle.std.specs.Prelude.{ℕ, List, [], ◌∷◌, ◌++◌, Option, None, Some, length}
use Rattle.xp_capture.specs.Capture.{flows_behind, sent_octets}
use Rattle.xp_capture.specs.declared.flow.Flow.{Flow}
use Rattle.xp_frames.specs.Frame.{frame}
use Rattle.xp_packets.specs.Encodability.{encoding_fault}
use Rattle.xp_packets.specs.Writing.{written}
use Rattle.xp_packets.specs.declared.fault.Malformed.{Malformed}
use Rattle.xp_packets.specs.declared.modulus.Modulus.{Modulus}
use Rattle.xp_packets.specs.declared.packet.Packet.{Packet}
use Rattle.xp_subs.specs.Tables.{Tables, modulus_of}
use Rattle.xp_step.specs.declared.entry.Entry.{Entry}
use Rattle.xp_step.specs.declared.event.What.{What}
use Rattle.xp_step.specs.declared.event.What.TheVariants.{Up, Down, Frame, WrongFrame, Expire, Stall, Reload}
use Rattle.xp_step.specs.declared.output.Output.{Output}
use Rattle.xp_step.specs.declared.output.Put.{Put}
use Rattle.xp_step.specs.declared.output.Put.TheVariants.{Send, Close}
use Rattle.xp_words.specs.declared.direction.Direction.{Direction}
use Rattle.xp_words.specs.declared.direction.Direction.TheVariants.{FromDte, FromDce}

module _ {A : Type 0} where
  -- a packet in its one written spelling, as a frame, unless it has none
  abbrev pub frame_unless : Option Malformed → Modulus → ℕ → Packet A → Option (List ℕ)
  frame_unless None modulus identifier packet = Some (frame (written modulus identifier packet))
  frame_unless (Some wrong) modulus identifier packet = None

  abbrev pub frame_of : Modulus → ℕ → Packet A → Option (List ℕ)
  frame_of modulus identifier packet = frame_unless (encoding_fault modulus identifier packet) modulus identifier packet

  -- the frame of an event, by the modulus of its line; a frame that held no packet is left out
  abbrev pub event_frame : Modulus → What A → Option (List ℕ)
  event_frame modulus Up = None
  event_frame modulus Down = None
  event_frame modulus (Frame identifier packet) = frame_of modulus identifier packet
  event_frame modulus (WrongFrame wrong) = None
  event_frame modulus Expire = None
  event_frame modulus Stall = None
  event_frame modulus Reload = None

  abbrev pub put_frame : Modulus → Put A → Option (List ℕ)
  put_frame modulus (Send identifier packet) = frame_of modulus identifier packet
  put_frame modulus Close = None

-- a frame as a segment, if there is one
abbrev pub segment_of : List Flow → ℕ → ℕ → Direction → Option (List ℕ) → List ℕ
segment_of flows moment line direction None = []
segment_of flows moment line direction (Some octets) = sent_octets flows moment line direction octets

-- the connections behind it
abbrev pub flows_with : List Flow → ℕ → Direction → Option (List ℕ) → List Flow
flows_with flows line direction None = flows
flows_with flows line direction (Some octets) = flows_behind flows line direction (length octets)

module _ {A : Type 0} where
  -- the frames that are put out, in turn
  abbrev pub output_segments : Tables → ℕ → List Flow → List (Output A) → List ℕ
  output_segments tables moment flows [] = []
  output_segments tables moment flows (output ∷ outputs) =
      segment_of flows moment output.line FromDce (put_frame (modulus_of tables output.line) output.outgoing.put)
      ++ output_segments tables moment (flows_with flows output.line FromDce (put_frame (modulus_of tables output.line) output.outgoing.put)) outputs

  abbrev pub flows_by_outputs : Tables → List Flow → List (Output A) → List Flow
  flows_by_outputs tables flows [] = flows
  flows_by_outputs tables flows (output ∷ outputs) =
      flows_by_outputs tables (flows_with flows output.line FromDce (put_frame (modulus_of tables output.line) output.outgoing.put)) outputs

  -- the connections behind the event of an entry
  abbrev pub flows_by_event : Tables → List Flow → Entry A → List Flow
  flows_by_event tables flows entry =
      flows_with flows entry.event.line FromDte (event_frame (modulus_of tables entry.event.line) entry.event.what)

  -- the frame that came, then those that are put out
  abbrev pub entry_segments : Tables → List Flow → Entry A → List ℕ
  entry_segments tables flows entry =
      segment_of flows entry.event.moment entry.event.line FromDte (event_frame (modulus_of tables entry.event.line) entry.event.what)
      ++ output_segments tables entry.event.moment (flows_by_event tables flows entry) entry.outputs

  abbrev pub flows_by_entry : Tables → List Flow → Entry A → List Flow
  flows_by_entry tables flows entry = flows_by_outputs tables (flows_by_event tables flows entry) entry.outputs
