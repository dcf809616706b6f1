-- The tables that are built from a subscription file.
use Rattle.std.specs.Prelude.{◌≡◌, ◌⊎◌, ℕ, true, false, zero, suc, ◌+◌, List, [], ◌∷◌, ◌++◌, Result, Ok, Err, None, Some, fold, length, map, replicate, if◌then◌else◌}
use Rattle.std.specs.List.{list_any, list_all, position_or_len}
use Rattle.xp_file.specs.declared.entry.GroupEntry.{GroupEntry}
use Rattle.xp_file.specs.declared.entry.LineEntry.{LineEntry}
use Rattle.xp_file.specs.declared.fault.SubscriptionFault.{SubscriptionFault}
use Rattle.xp_file.specs.declared.fault.SubscriptionFault.TheVariants as faults
use Rattle.xp_file.specs.declared.key.Key.{Key}
use Rattle.xp_file.specs.declared.key.Key.TheVariants as keys
use Rattle.xp_file.specs.Entries.{StationData}
use Rattle.xp_file.specs.SubscriptionFile.{FileData, file_in}
use Rattle.xp_file.specs.Name.{same}
use Rattle.xp_packets.specs.declared.modulus.Modulus.TheVariants.{Eight, Long}
use Rattle.xp_subs.specs.declared.line.Line.{Line}
use Rattle.xp_subs.specs.declared.station.Membership.{Membership}
use Rattle.xp_subs.specs.declared.station.Station.{Station}
use Rattle.xp_subs.specs.DefaultCallers.{HasTwoDefaultCallers}
use Rattle.xp_subs.specs.Passes.{file_over, has_own_indexes}
use Rattle.xp_subs.specs.Tables.{Tables, spare_place}
use Rattle.xp_subs.specs.UsedValues.{Use, key_of, uses_of, Once, IsFirstRepeated}

-- `count` numbers, from `first` on
abbrev pub numbers : ℕ → ℕ → List ℕ
numbers first zero = []
numbers first (suc count) = first ∷ numbers (first + 1) count

-- a line of the station with this number
abbrev pub line_from : ℕ → LineEntry → Line
line_from station line =
    record { name = line.name; access = line.access; address = line.address; modulus = line.modulus; station = station; from = line.from }

abbrev pub lines_of : ℕ → List LineEntry → List Line
lines_of station lines = map (line_from station) lines

-- the lines of the stations; the first station has this number
abbrev pub lines_from : ℕ → List StationData → List Line
lines_from number [] = []
lines_from number (station ∷ stations) = lines_of number station.lines ++ lines_from (number + 1) stations

-- the places that the file reserves for further lines: those of modulo 8, then those of modulo 128
abbrev pub spare_places : FileData → List Line
spare_places file = replicate file.spare_lines (spare_place Eight) ++ replicate file.spare_lines_128 (spare_place Long)

-- a new name is added at the end
abbrev pub mention : List (List ℕ) → List ℕ → List (List ℕ)
mention known name = if list_any (same name) known then known else known ++ name ∷ []

abbrev pub group_names : List GroupEntry → List (List ℕ)
group_names groups = map (λ (group : GroupEntry). group.name) groups

-- the names of groups, in the order in which they are first mentioned
abbrev pub mentions : List (List ℕ) → List StationData → List (List ℕ)
mentions known [] = known
mentions known (station ∷ stations) = mentions (fold mention known (group_names station.groups)) stations

-- the names of the groups of all stations, one after another
abbrev pub named_groups : List StationData → List (List ℕ)
named_groups [] = []
named_groups (station ∷ stations) = group_names station.groups ++ named_groups stations

-- a group's number: the place of its name in the list
abbrev pub group_number : List (List ℕ) → List ℕ → ℕ
group_number known name = position_or_len (same name) known

abbrev pub membership_from : List (List ℕ) → GroupEntry → Membership
membership_from known group = record {
  group = group_number known group.name;
  index = group.index;
  outgoing_barred = group.outgoing_barred;
  incoming_barred = group.incoming_barred;
}

abbrev pub memberships_of : List (List ℕ) → List GroupEntry → List Membership
memberships_of known groups = map (membership_from known) groups

-- a station whose first line has the number `line`
abbrev pub station_from : List (List ℕ) → ℕ → StationData → Station
station_from known line entry = record {
  address = entry.address;
  lines = record { items = numbers line (length entry.lines) };
  facilities = entry.facilities;
  preferential = entry.preferential;
  default_caller = entry.default_caller;
  memberships = record { items = memberships_of known entry.groups };
  redirect = entry.redirect;
}

-- the stations in order; their lines are numbered from `line` on
abbrev pub stations_from : List (List ℕ) → ℕ → List StationData → List Station
stations_from known line [] = []
stations_from known line (station ∷ stations) =
    station_from known line station ∷ stations_from known (line + length station.lines) stations

unfoldable pub tables_of : FileData → Tables
tables_of file = record {
  stations = stations_from (mentions [] file.stations) 0 file.stations;
  lines = lines_from 0 file.stations ++ spare_places file;
  groups = mentions [] file.stations;
  segment_limit = file.segment_limit;
  journal = file.journal;
  host = file.host;
  xot_port = file.xot_port;
  name = file.name;
}

-- What the file has twice, by its key: the first value that was used before; or, where each is used once, the default caller of
-- a router.
abbrev pub IsTwiceUsed : List StationData → Key → Type 0
IsTwiceUsed stations key =
    ((again : Use) × IsFirstRepeated (uses_of stations) again × (key ≡ key_of again))
    ⊎ (Once (uses_of stations) × HasTwoDefaultCallers stations × (key ≡ keys.DefaultCaller))

-- The first fault of a file whose keys have been read: a limit, a value or a default caller that is there twice, or an index.
abbrev pub Refuses : FileData → SubscriptionFault → Type 0
Refuses file (faults.Limit key) = file_over file ≡ Some key
Refuses file (faults.TwiceUsed key) = (file_over file ≡ None) × IsTwiceUsed file.stations key
Refuses file faults.Index =
    (file_over file ≡ None) × Once (uses_of file.stations) × (HasTwoDefaultCallers file.stations → ⊥)
    × (list_all has_own_indexes file.stations ≡ false)
Refuses file _ = ⊥

pub record Accepts (file : FileData) : Type 0 where
  pub limits : file_over file ≡ None
  pub once : Once (uses_of file.stations)
  pub default_callers : HasTwoDefaultCallers file.stations → ⊥
  pub indexes : list_all has_own_indexes file.stations ≡ true

-- The tables of a text, or its first fault: of its values, or of the file that they make.
abbrev pub SetsUp : List ℕ → Result Tables SubscriptionFault → Type 0
SetsUp text (Ok tables) = (file : FileData) × (file_in text ≡ Ok file) × Accepts file × (tables ≡ tables_of file)
SetsUp text (Err fault) = (file_in text ≡ Err fault) ⊎ ((file : FileData) × (file_in text ≡ Ok file) × Refuses file fault)
