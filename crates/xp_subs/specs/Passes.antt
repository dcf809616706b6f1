-- The checks of stations whose keys have been read: their limits, the values that are used twice, and the indexes of
-- groups.
use Rattle.std.specs.Prelude.{ℕ, ◌+◌, List, [], ◌∷◌, Bool, true, not, ◌&&◌, Option, None, Some, length, sum_by, nat_eq, nat_lt, if◌then◌else◌}
use Rattle.std.specs.List.{list_any}
use Rattle.xp_file.specs.declared.entry.GroupEntry.{GroupEntry}
use Rattle.xp_file.specs.declared.key.Key.{Key}
use Rattle.xp_file.specs.declared.key.Key.TheVariants as keys
use Rattle.xp_file.specs.Entries.{StationData}
use Rattle.xp_file.specs.Name.{same}
use Rattle.xp_file.specs.SubscriptionFile.{FileData}
use Rattle.xp_subs.specs.Bounds.{most_lines, most_stations}

-- the limits of a station: 32 lines and 64 groups
abbrev pub station_over : StationData → Option Key
station_over station =
    if nat_lt 32 (length station.lines) then Some keys.Line
    else (if nat_lt 64 (length station.groups) then Some keys.Group else None)

abbrev pub first_key : Option Key → Option Key → Option Key
first_key None other = other
first_key (Some key) other = Some key

abbrev pub first_over : List StationData → Option Key
first_over [] = None
first_over (station ∷ stations) = first_key (station_over station) (first_over stations)

abbrev pub line_total : List StationData → ℕ
line_total = sum_by (λ station. length station.lines)

-- the limits of an exchange: its stations, and its lines in all
abbrev pub over_limit : List StationData → Option Key
over_limit stations =
    if nat_lt most_stations (length stations) then Some keys.Station
    else (if nat_lt most_lines (line_total stations) then Some keys.Line else first_over stations)

-- the limits of a file: of its stations, and of its lines with the places that it reserves for further ones
abbrev pub spare_over : FileData → Option Key
spare_over file =
    if nat_lt most_lines (line_total file.stations + file.spare_lines) then Some keys.SpareLines
    else (if nat_lt most_lines (line_total file.stations + file.spare_lines + file.spare_lines_128) then Some keys.SpareLines128 else None)

abbrev pub file_over : FileData → Option Key
file_over file = first_key (over_limit file.stations) (spare_over file)

-- no two elements are equal
abbrev pub all_differ : {A : Type 0} → (A → A → Bool) → List A → Bool
all_differ equal [] = true
all_differ equal (x ∷ xs) = not (list_any (λ y. equal y x) xs) && all_differ equal xs

abbrev pub same_index : GroupEntry → GroupEntry → Bool
same_index a b = nat_eq a.index b.index

abbrev pub same_group : GroupEntry → GroupEntry → Bool
same_group a b = same a.name b.name

-- the station has each index and each group only once, and its preferential index is one of its indexes
abbrev pub has_own_indexes : StationData → Bool
has_own_indexes station =
    (all_differ same_index station.groups && all_differ same_group station.groups) && has station.preferential where
      has : Option ℕ → Bool
      has None = true
      has (Some index) = list_any (λ (group : GroupEntry). nat_eq group.index index) station.groups
