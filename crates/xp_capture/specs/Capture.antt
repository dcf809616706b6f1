-- The frames of a capture file, each in turn.
use Rattle.std.specs.Prelude.{ℕ, ◌+◌, ◌%◌, ◌^◌, slice_get, slice_set, unwrap_or, length, List}
use Rattle.xp_capture.specs.Segment.{ends_of, segment_octets}
use Rattle.xp_capture.specs.declared.capture.Frame.{Frame}
use Rattle.xp_capture.specs.declared.flow.Flow.{Flow}
use Rattle.xp_words.specs.declared.direction.Direction.{Direction}
use Rattle.xp_words.specs.declared.direction.Direction.TheVariants.{FromDte, FromDce}

-- no octet was sent: the sequence numbers begin at 1
abbrev pub first_flow : Flow
first_flow = record { from_line = 1; from_exchange = 1 }

-- so many octets more were sent
abbrev pub flow_after : Flow → Direction → ℕ → Flow
flow_after flow FromDte count = record flow { from_line = (flow.from_line + count) % 2 ^ 32 }
flow_after flow FromDce count = record flow { from_exchange = (flow.from_exchange + count) % 2 ^ 32 }

-- the connection of a line
abbrev pub flow_of : List Flow → ℕ → Flow
flow_of flows line = unwrap_or (slice_get flows line) first_flow

-- the sequence numbers of a segment, and of what it acknowledges
abbrev pub numbers_of : Flow → Direction → ℕ × ℕ
numbers_of flow FromDte = (flow.from_line, flow.from_exchange)
numbers_of flow FromDce = (flow.from_exchange, flow.from_line)

-- what octets add to the file that go over the connection of a line
abbrev pub sent_octets : List Flow → ℕ → ℕ → Direction → List ℕ → List ℕ
sent_octets flows moment line direction octets =
    segment_octets
    moment
    (ends_of line direction)
    (numbers_of (flow_of flows line) direction).0
    (numbers_of (flow_of flows line) direction).1
    octets

-- the connections behind so many octets of a line
abbrev pub flows_behind : List Flow → ℕ → Direction → ℕ → List Flow
flows_behind flows line direction count = slice_set flows line (flow_after (flow_of flows line) direction count)

-- what a frame adds to the file, over these connections
abbrev pub frame_octets : List Flow → Frame → List ℕ
frame_octets flows frame = sent_octets flows frame.moment frame.line frame.direction frame.octets.now

-- the connections behind a frame
abbrev pub flows_after : List Flow → Frame → List Flow
flows_after flows frame = flows_behind flows frame.line frame.direction (length frame.octets.now)
