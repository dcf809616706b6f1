-- What holds of the tables of all subscriptions.
use Rattle.std.specs.Prelude.{◌≡◌, ℕ, ◌<◌, ◌≤◌, List, true, Option, None, Some, Contains, All, IsTrue, map}
use Rattle.xp_file.specs.Entries.{AreLimits, IsAccess}
use Rattle.xp_subs.specs.declared.station.Membership.{Membership}
use Rattle.xp_subs.specs.declared.station.Station.{Station}
use Rattle.xp_subs.specs.declared.target.Target.{Target}
use Rattle.xp_file.specs.Name.{is_line_name}
use Rattle.xp_file.specs.Routers.{IsPort}
use Rattle.xp_file.specs.Sources.{AreSources}
use Rattle.xp_subs.specs.Bounds.{most_lines, most_stations}
use Rattle.xp_subs.specs.Tables.{Tables, station_count, line_count, station_at, line_at, is_spare, spare_place, IsThere, station_of, modulus_of, target_of, line_named_of, group_count, ports_of}
use Rattle.xp_subs.specs.UsedValues.{Once}

-- the line is in the station's list of lines
abbrev pub Lists : Tables → ℕ → ℕ → Type 0
Lists tables station line = Contains (station_at tables station).lines.items line

-- the target is an existing station, or one of its lines
abbrev pub IsTarget : Tables → Target → Type 0
IsTarget tables target = (target.station < station_count tables) × one target.line where
  one : Option ℕ → Type 0
  one None = Unit {0}
  one (Some line) = (line < line_count tables) × (station_of tables line ≡ target.station)

-- the target's station, or its one line, has this address as its own
abbrev pub HasAddress : Tables → Target → List ℕ → Type 0
HasAddress tables target address = one target.line where
  one : Option ℕ → Type 0
  one None = (station_at tables target.station).address ≡ address
  one (Some line) = (line_at tables line).address ≡ Some address

-- the index of each of the station's groups has at most four digits
abbrev pub HasShortIndexes : Station → Type 0
HasShortIndexes station = All (λ (membership : Membership). membership.index ≤ 9_999) station.memberships.items

-- the indexes of the station's groups, and the groups
abbrev pub indexes_of : Station → List ℕ
indexes_of station = map (λ (membership : Membership). membership.index) station.memberships.items

abbrev pub groups_of : Station → List ℕ
groups_of station = map (λ (membership : Membership). membership.group) station.memberships.items

-- The station has each index and each group only once. Each group has a name. The preferential index is one of its
-- indexes.
pub record HasOwnGroups (tables : Tables) (station : Station) : Type 0 where
  pub indexes_once : Once (indexes_of station)
  pub groups_once : Once (groups_of station)
  pub groups_named : All (λ group. group < group_count tables) (groups_of station)
  pub preferential : (index : ℕ) → station.preferential ≡ Some index → Contains (indexes_of station) index

pub record IsSound (tables : Tables) : Type 0 where
  -- there is at least one place for a line, and there are no more places and stations than an exchange may have
  pub some_line : 0 < line_count tables
  pub few_lines : line_count tables ≤ most_lines
  pub few_stations : station_count tables ≤ most_stations
  -- a place without a line has nothing but its modulus
  pub spare : (line : ℕ) → is_spare (line_at tables line) ≡ true → line_at tables line ≡ spare_place (modulus_of tables line)
  -- a line is in the list of its own station, and in no other station's list
  pub placed : (line : ℕ) → IsThere tables line → station_of tables line < station_count tables
  pub listed : (line : ℕ) → IsThere tables line → Lists tables (station_of tables line) line
  pub own : (station line : ℕ) → station < station_count tables → Lists tables station line
      → (line < line_count tables) × (station_of tables line ≡ station)
  -- no address and no name is used twice: each is found, and belongs to one station or line
  pub station_found : (station : ℕ) → station < station_count tables
      → target_of tables (station_at tables station).address ≡ Some (record { station = station; line = None })
  pub line_found : (line : ℕ) (address : List ℕ) → line < line_count tables
      → (line_at tables line).address ≡ Some address
      → target_of tables address ≡ Some (record { station = station_of tables line; line = Some line })
  pub named : (line : ℕ) → IsThere tables line
      → line_named_of tables (line_at tables line).name ≡ Some line
  -- nothing else is found by an address or a name
  pub target : (address : List ℕ) (target : Target) → target_of tables address ≡ Some target → IsTarget tables target
  pub address_held : (address : List ℕ) (target : Target) → target_of tables address ≡ Some target → HasAddress tables target address
  pub name_held : (name : List ℕ) (line : ℕ) → line_named_of tables name ≡ Some line
      → (line < line_count tables) × ((line_at tables line).name ≡ name)
  pub indexes : (station : ℕ) → station < station_count tables → HasShortIndexes (station_at tables station)
  -- a station is in a group only once; no two groups have the same name, so equal group numbers mean equal names
  pub own_groups : (station : ℕ) → station < station_count tables → HasOwnGroups tables (station_at tables station)
  pub names_of_groups : Once tables.groups
  -- each line has a valid port or a valid router; no two lines have the same port
  pub accesses : (line : ℕ) → IsThere tables line → IsAccess (line_at tables line).access
  pub ports_once : Once (ports_of tables.lines)
  -- the port for routers is valid
  pub xot_port : IsPort tables.xot_port
  -- the limits of segments and of history entries are in their ranges
  pub limits : AreLimits tables.segment_limit tables.journal
  -- each line has a valid name
  pub spelled : (line : ℕ) → IsThere tables line → IsTrue (is_line_name (line_at tables line).name)
  -- each line has at most 8 sources, each of the form of an address
  pub sources : (line : ℕ) → line < line_count tables → AreSources (line_at tables line).from
