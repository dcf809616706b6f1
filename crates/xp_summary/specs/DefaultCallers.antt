-- Stations behind an XOT router. A router of several stations should have a default caller, which takes the calls whose calling address
-- says nothing.
use Rattle.std.specs.Prelude.{◌≡◌, ℕ, ◌<◌, List, false, IsTrue}
use Rattle.xp_file.specs.Entries.{is_behind}
use Rattle.xp_subs.specs.Tables.{Tables, line_at, line_count, station_at, station_of}

-- all lines behind the router with this address are the station's
abbrev pub IsAloneBehind : Tables → ℕ → List ℕ → Type 0
IsAloneBehind tables station router =
    (line : ℕ) → line < line_count tables → IsTrue (is_behind router (line_at tables line).access) → station_of tables line ≡ station

-- no station with a line behind the router with this address is its default caller
abbrev pub HasNoDefaultCaller : Tables → List ℕ → Type 0
HasNoDefaultCaller tables router =
    (line : ℕ) → line < line_count tables → IsTrue (is_behind router (line_at tables line).access)
    → (station_at tables (station_of tables line)).default_caller ≡ false
