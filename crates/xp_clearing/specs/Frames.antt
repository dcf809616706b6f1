-- The frames of a stream, as octets (RFC 1613).
use Rattle.std.specs.Prelude.{◌≡◌, ℕ, ◌+◌, ◌*◌, ◌/◌, ◌<◌, ◌==◌, ◌&&◌, ◌||◌, Bool, List, length, slice_index}
use Rattle.xp_clearing.specs.declared.frame_watch.PassedFrame.{PassedFrame}

-- the length of the packet, that the last two octets of a frame's header tell
abbrev pub packet_length : List ℕ → ℕ
packet_length octets = 256 * slice_index octets 2 + slice_index octets 3

-- a header, and the packet behind it
abbrev pub IsWhole : List ℕ → Type 0
IsWhole octets = length octets ≡ 4 + packet_length octets

-- the octets at the front of a frame, not all of it
abbrev pub IsUnfinished : List ℕ → Type 0
IsUnfinished octets = length octets < 4 + packet_length octets

-- what is told of a frame. What has not passed yet counts as 0.
abbrev pub passed_by : List ℕ → PassedFrame
passed_by octets = record { packet_length = packet_length octets; first = slice_index octets 4; packet_type = slice_index octets 6 }

-- a frame begins, and its packet is a call request or an incoming call
abbrev pub BeginsWithCall : List ℕ → Type 0
BeginsWithCall octets = (6 < length octets) × (slice_index octets 6 ≡ 0x0b)

abbrev pub format_of : PassedFrame → ℕ
format_of frame = frame.first / 16

-- a clear request or a clear indication
abbrev pub is_clear : PassedFrame → Bool
is_clear frame = frame.packet_type == 0x13

-- a clear confirmation
abbrev pub is_confirmation : PassedFrame → Bool
is_confirmation frame = frame.packet_type == 0x17

-- a clear of a cause, with a diagnostic or without, or a confirmation, and no block
abbrev pub is_plain : PassedFrame → Bool
is_plain frame =
    (is_clear frame && (frame.packet_length == 4 || frame.packet_length == 5))
    || (is_confirmation frame && frame.packet_length == 3)
