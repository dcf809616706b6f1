-- Which groups have a number, as the private functions that build the tables need it.
use Rattle.std.specs.Prelude.{ℕ, ◌<◌, All, List, length}
use Rattle.xp_file.specs.declared.entry.GroupEntry.{GroupEntry}
use Rattle.xp_file.specs.Entries.{StationData}
use Rattle.xp_subs.specs.Built.{group_number}

-- the group's name is in the list `known`
abbrev pub IsKnown : List (List ℕ) → GroupEntry → Type 0
IsKnown known group = group_number known group.name < length known

-- the same of all groups of a station
abbrev pub AreKnown : List (List ℕ) → StationData → Type 0
AreKnown known station = All (IsKnown known) station.groups
