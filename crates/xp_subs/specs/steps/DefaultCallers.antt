-- How the private functions look for two default callers of one router.
use Rattle.std.specs.Prelude.{ℕ, List, Bool, false, ◌&&◌}
use Rattle.std.specs.List.{list_any}
use Rattle.xp_file.specs.declared.entry.Access.{Access}
use Rattle.xp_file.specs.declared.entry.Access.TheVariants.{Port, Router, Spare}
use Rattle.xp_file.specs.declared.entry.LineEntry.{LineEntry}
use Rattle.xp_file.specs.Entries.{StationData, is_behind}

-- one of the lines is behind the router with this address
unfoldable pub has_line_behind : List LineEntry → List ℕ → Bool
has_line_behind lines router = list_any (λ (line : LineEntry). is_behind router line.access) lines

-- one of the lines is behind the router of this access
abbrev pub has_line_beside : List LineEntry → Access → Bool
has_line_beside lines (Port port) = false
has_line_beside lines (Router router) = has_line_behind lines router.address
has_line_beside lines Spare = false

-- a line of the one list and a line of the other are behind one router
unfoldable pub share_router : List LineEntry → List LineEntry → Bool
share_router one other = list_any (λ (line : LineEntry). has_line_beside other line.access) one

-- the two stations are default callers of one router
unfoldable pub are_rivals : StationData → StationData → Bool
are_rivals one other = (one.default_caller && other.default_caller) && share_router one.lines other.lines
