-- The subscription tables, and the functions that read them.
pub use Rattle.xp_file.specs.Name.{same}
use Rattle.std.specs.Prelude.{ℕ, List, [], ◌∷◌, ◌≡◌, ◌<◌, ◌++◌, Bool, true, false, not, ◌&&◌, Option, None, Some, unwrap_or, length, position, slice_index_or}
use Rattle.std.specs.List.{list_any}
use Rattle.xp_file.specs.declared.entry.Access.{Access}
use Rattle.xp_file.specs.declared.entry.Access.TheVariants.{Port, Router, Spare}
use Rattle.xp_packets.specs.declared.modulus.Modulus.{Modulus}
use Rattle.xp_packets.specs.declared.modulus.Modulus.TheVariants.{Eight}
use Rattle.xp_subs.specs.Bounds.{most_stations}
use Rattle.xp_subs.specs.declared.line.Line.{Line}
use Rattle.xp_subs.specs.declared.station.Station.{Station}
use Rattle.xp_subs.specs.declared.target.Target.{Target}

pub record Tables : Type 0 where
  pub stations : List Station
  pub lines : List Line
  -- the names of the closed user groups, in the order of their numbers
  pub groups : List (List ℕ)
  pub segment_limit : ℕ
  pub journal : ℕ
  pub host : List ℕ
  pub xot_port : ℕ
  -- the name of the exchange, if it is given one
  pub name : Option (List ℕ)

abbrev pub station_count : Tables → ℕ
station_count tables = length tables.stations

abbrev pub line_count : Tables → ℕ
line_count tables = length tables.lines

-- The result for the number of a station or a line that does not exist. No call comes from such a station or goes to it.
abbrev pub no_station : Station
no_station = record {
  address = [];
  lines = record { items = [] };
  facilities = record {
    outgoing_barred = true;
    incoming_barred = true;
    reverse_charging = false;
    fast_select = false;
    outgoing_access = false;
    incoming_access = false;
  };
  preferential = None;
  default_caller = false;
  memberships = record { items = [] };
  redirect = None;
}

abbrev pub no_line : Line
no_line = record { name = []; access = Port 0; address = None; modulus = Eight; station = 0; from = [] }

-- in place of a station's number, for a place that has no line: no station has this number
abbrev pub no_station_number : ℕ
no_station_number = most_stations

-- a place that has no line: it is kept for one of this modulus that may come
abbrev pub spare_place : Modulus → Line
spare_place modulus = record { name = []; access = Spare; address = None; modulus = modulus; station = no_station_number; from = [] }

abbrev pub is_no_access : Access → Bool
is_no_access (Port port) = false
is_no_access (Router router) = false
is_no_access Spare = true

-- the place has no line
abbrev pub is_spare : Line → Bool
is_spare line = is_no_access line.access

abbrev pub station_at : Tables → ℕ → Station
station_at tables number = slice_index_or tables.stations number no_station

abbrev pub line_at : Tables → ℕ → Line
line_at tables number = slice_index_or tables.lines number no_line

-- there is a line with this number
abbrev pub IsThere : Tables → ℕ → Type 0
IsThere tables number = (number < line_count tables) × (is_spare (line_at tables number) ≡ false)

-- the number of a line's station
abbrev pub station_of : Tables → ℕ → ℕ
station_of tables number = (line_at tables number).station

-- a line's own address if it has one, otherwise its station's
abbrev pub address_of : Tables → ℕ → List ℕ
address_of tables number =
    unwrap_or (line_at tables number).address (station_at tables (station_of tables number)).address

-- the modulus of a line's packet numbers
abbrev pub modulus_of : Tables → ℕ → Modulus
modulus_of tables number = (line_at tables number).modulus

-- the port of a line alone, if it has one
abbrev pub port_list : Access → List ℕ
port_list (Port port) = port ∷ []
port_list (Router router) = []
port_list Spare = []

-- the ports of all lines that have one, in the order of the lines
abbrev pub ports_of : List Line → List ℕ
ports_of [] = []
ports_of (line ∷ lines) = port_list line.access ++ ports_of lines

-- a line is behind an XOT router
abbrev pub is_router : Access → Bool
is_router (Port port) = false
is_router (Router router) = true
is_router Spare = false

abbrev pub has_router : Line → Bool
has_router line = is_router line.access

abbrev pub has_routers : Tables → Bool
has_routers tables = list_any has_router tables.lines

abbrev pub holds : List ℕ → Option (List ℕ) → Bool
holds address None = false
holds address (Some held) = same address held

abbrev pub has_address : List ℕ → Line → Bool
has_address address line = holds address line.address

-- the place has a line with this name
abbrev pub has_name : List ℕ → Line → Bool
has_name name line = not (is_spare line) && same name line.name

-- the first line with this name
abbrev pub line_named_of : Tables → List ℕ → Option ℕ
line_named_of tables name = position (has_name name) tables.lines

-- a target that is a whole station, and one that is a single line
abbrev pub whole_station : Option ℕ → Option Target
whole_station None = None
whole_station (Some station) = Some (record { station = station; line = None })

abbrev pub one_line : List Line → Option ℕ → Option Target
one_line lines None = None
one_line lines (Some line) =
    Some (record { station = (slice_index_or lines line no_line).station; line = Some line })

abbrev pub first_target : Option Target → Option Target → Option Target
first_target None other = other
first_target (Some target) other = Some target

-- the target of an address: the station with this address, otherwise the line
abbrev pub target_of : Tables → List ℕ → Option Target
target_of tables address =
    first_target
    (whole_station (position (λ station. same address station.address) tables.stations))
    (one_line tables.lines (position (has_address address) tables.lines))

abbrev pub group_count : Tables → ℕ
group_count tables = length tables.groups
