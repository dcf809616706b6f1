-- A frame as a TCP segment in a capture file: a record of pcap, an IPv4 header and a TCP header.
use Rattle.std.specs.Prelude.{ℕ, ◌+◌, ◌/◌, ◌%◌, flat_map, length, min, sum, List, [], ◌∷◌, ◌++◌}
use Rattle.xp_capture.specs.Checksum.{checksum, sum_of_octets}
use Rattle.xp_capture.specs.declared.ends.Ends.{Ends}
use Rattle.xp_words.specs.declared.direction.Direction.{Direction}
use Rattle.xp_words.specs.declared.direction.Direction.TheVariants.{FromDte, FromDce}

-- words of 16 bits as octets, in network order
abbrev pub word_octets : ℕ → List ℕ
word_octets word = (word / 256) ∷ (word % 256) ∷ []

abbrev pub octets_of_words : List ℕ → List ℕ
octets_of_words words = flat_map word_octets words

-- the exchange is 10.0.0.1, port 1998; line 0 is 10.1.0.0, and line n is n addresses behind it
abbrev pub exchange_address : ℕ
exchange_address = 0x0a00_0001

abbrev pub line_address : ℕ → ℕ
line_address line = 0x0a01_0000 + line

-- the ports from 49152 on are those of a line's connections, one behind the other; the first one's follows the last
abbrev pub line_port : ℕ → ℕ
line_port connection = 49_152 + connection % 16_384

-- where the octets of a connection of a line come from, and where they go
abbrev pub connection_ends : ℕ → ℕ → Direction → Ends
connection_ends line connection FromDte =
    record { from = line_address line; to = exchange_address; from_port = line_port connection; to_port = 1_998 }
connection_ends line connection FromDce =
    record { from = exchange_address; to = line_address line; from_port = 1_998; to_port = line_port connection }

-- of a line that has one connection
abbrev pub ends_of : ℕ → Direction → Ends
ends_of line direction = connection_ends line 0 direction

-- the header of an IPv4 packet that carries a TCP segment of so many octets of data (RFC 791)
abbrev pub ip_words : ℕ → Ends → ℕ → List ℕ
ip_words sum_field ends count =
    0x4500 ∷ (40 + count) ∷ 0 ∷ 0x4000 ∷ 0x4006 ∷ sum_field
    ∷ (ends.from / 65_536) ∷ (ends.from % 65_536) ∷ (ends.to / 65_536) ∷ (ends.to % 65_536) ∷ []

-- the header of a TCP segment, with ACK and PSH, and a window of 65,535 (RFC 9293)
abbrev pub tcp_words : ℕ → Ends → ℕ → ℕ → List ℕ
tcp_words sum_field ends sequence acknowledged =
    ends.from_port ∷ ends.to_port ∷ (sequence / 65_536) ∷ (sequence % 65_536) ∷ (acknowledged / 65_536) ∷ (acknowledged % 65_536)
    ∷ 0x5018 ∷ 0xffff ∷ sum_field ∷ 0 ∷ []

-- what the checksum of TCP covers in front of the header
abbrev pub pseudo_words : Ends → ℕ → List ℕ
pseudo_words ends count =
    (ends.from / 65_536) ∷ (ends.from % 65_536) ∷ (ends.to / 65_536) ∷ (ends.to % 65_536) ∷ 6 ∷ (20 + count) ∷ []

-- both headers, with their checksums
abbrev pub ip_header : Ends → ℕ → List ℕ
ip_header ends count = ip_words (checksum (sum (ip_words 0 ends count))) ends count

abbrev pub tcp_header : Ends → ℕ → ℕ → List ℕ → List ℕ
tcp_header ends sequence acknowledged octets =
    tcp_words
    (checksum (sum (pseudo_words ends (length octets)) + sum (tcp_words 0 ends sequence acknowledged) + sum_of_octets octets))
    ends sequence acknowledged

-- a record of pcap: the seconds, no microseconds, and twice the octets of the packet
abbrev pub record_words : ℕ → ℕ → List ℕ
record_words moment count =
    (min moment 4_294_967_295 / 65_536) ∷ (min moment 4_294_967_295 % 65_536) ∷ 0 ∷ 0 ∷ 0 ∷ (40 + count) ∷ 0 ∷ (40 + count) ∷ []

-- what stands in front of the data: the record, and both headers
unfoldable pub head_octets : ℕ → Ends → ℕ → ℕ → List ℕ → List ℕ
head_octets moment ends sequence acknowledged octets =
    octets_of_words (record_words moment (length octets))
    ++ octets_of_words (ip_header ends (length octets))
    ++ octets_of_words (tcp_header ends sequence acknowledged octets)

-- a whole segment, with its record
abbrev pub segment_octets : ℕ → Ends → ℕ → ℕ → List ℕ → List ℕ
segment_octets moment ends sequence acknowledged octets = head_octets moment ends sequence acknowledged octets ++ octets
