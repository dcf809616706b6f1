-- The headers of frames (RFC 1613).
use Rattle.std.specs.Prelude.{ℕ, ◌+◌, ◌*◌, ◌==◌, ◌&&◌, List, Option, None, Some, nat_le, slice_index, if◌then◌else◌}
use Rattle.xp_door.specs.declared.down_reason.DownReason.{DownReason}
use Rattle.xp_door.specs.declared.down_reason.DownReason.TheVariants.{Length, Version}

-- two octets as a number
abbrev pub number_at : List ℕ → ℕ → ℕ
number_at octets place = 256 * slice_index octets place + slice_index octets (place + 1)

-- why octets are no header of a frame: another version than 0, or a length of less than 3 or of more than 1,028
abbrev pub header_fault : List ℕ → Option DownReason
header_fault header =
    if number_at header 0 == 0
    then (if nat_le 3 (number_at header 2) && nat_le (number_at header 2) 1028 then None else Some (Length (number_at header 2)))
    else Some (Version (number_at header 0))
