-- What pieces of what lines have received and sent add to a capture file, and how many may wait.
use Rattle.std.specs.Prelude.{ℕ, ◌+◌, ◌<◌, ◌≤◌, List, length, map, sum}
use Rattle.xp_capture.specs.Segment.{connection_ends, segment_octets}
use Rattle.xp_trace.specs.declared.piece.Piece.{Piece}

-- a TCP segment of the piece's connection
abbrev pub piece_octets : ℕ → Piece → List ℕ
piece_octets moment piece =
    segment_octets moment (connection_ends piece.line piece.connection piece.direction) piece.sequence piece.acknowledged piece.octets.items

abbrev pub octets_in : List Piece → ℕ
octets_in pieces = sum (map (λ piece. length piece.octets.items) pieces)

-- another piece may wait behind these: 65,536 wait at most, with 16 MiB of octets at most
abbrev pub HasRoom : List Piece → Piece → Type 0
HasRoom pieces piece = (length pieces < 65_536) × (octets_in pieces + length piece.octets.items ≤ 16_777_216)
