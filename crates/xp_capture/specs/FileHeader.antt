-- The header of a capture file.
use Rattle.std.specs.Prelude.{ℕ, List, [], ◌∷◌}
use Rattle.xp_capture.specs.Segment.{octets_of_words}

-- the header of a file of pcap, version 2.4, of IPv4 packets of at most 65,535 octets
abbrev pub file_header : List ℕ
file_header = octets_of_words (0xa1b2 ∷ 0xc3d4 ∷ 2 ∷ 4 ∷ 0 ∷ 0 ∷ 0 ∷ 0 ∷ 0 ∷ 0xffff ∷ 0 ∷ 228 ∷ [])
