-- The diagnostic codes of X.25 Annex E for octets that are not a packet.
use Rattle.std.specs.Prelude.{ℕ}
use Rattle.xp_packets.specs.declared.fault.Malformed.{Malformed}
use Rattle.xp_packets.specs.declared.fault.Malformed.TheVariants.{Short, Format, Unknown, Address, Facilities, Long}

-- In this order: packet too short, invalid general format identifier, unidentifiable packet, invalid called address
-- (used for the calling address too), invalid facility length, packet too long.
abbrev pub diagnostic_of : Malformed → ℕ
diagnostic_of Short = 38
diagnostic_of Format = 40
diagnostic_of Unknown = 33
diagnostic_of Address = 67
diagnostic_of Facilities = 69
diagnostic_of Long = 39
