-- What redirections lead to (X.25 clause 6.25).
use Rattle.std.specs.Prelude.{◌≡◌, ℕ, zero, suc, ◌<◌, List, Option, None, Some, option_map, Bool, false, not, ◌||◌, if◌then◌else◌, is_none}
use Rattle.xp_file.specs.declared.entry.Redirection.{Redirection}
use Rattle.xp_subs.specs.declared.target.Target.{Target}
use Rattle.xp_subs.specs.Tables.{Tables, station_at, station_count, target_of}

-- calls are redirected for some reason
abbrev pub redirects : Redirection → Bool
redirects redirection = (redirection.systematic || redirection.busy) || redirection.out_of_order

-- the address to which a station's calls may be redirected
abbrev pub alternate_address : Option Redirection → Option (List ℕ)
alternate_address None = None
alternate_address (Some redirection) = if redirects redirection then Some redirection.to else None

-- the station that has an address, or whose line has it
abbrev pub station_with : Tables → Option (List ℕ) → Option ℕ
station_with tables None = None
station_with tables (Some address) = option_map (λ (target : Target). target.station) (target_of tables address)

-- the station to which a station's calls may be redirected, if somebody has the address
abbrev pub next_station : Tables → ℕ → Option ℕ
next_station tables station = station_with tables (alternate_address (station_at tables station).redirect)

abbrev pub next_if_any : Tables → Option ℕ → Option ℕ
next_if_any tables None = None
next_if_any tables (Some station) = next_station tables station

-- the station to which so many redirections lead
abbrev pub station_after : Tables → ℕ → ℕ → Option ℕ
station_after tables station zero = Some station
station_after tables station (suc steps) = next_if_any tables (station_after tables station steps)

-- Redirections lead from the station back to it. They are at most as many as there are stations, since none is met twice
-- on the way.
abbrev pub IsInCircle : Tables → ℕ → Type 0
IsInCircle tables station =
    (steps : ℕ) × (steps < station_count tables) × (station_after tables station (suc steps) ≡ Some station)

-- the address to which a station's calls are redirected, where nobody has it
abbrev pub alternate_of_nobody : Tables → Option Redirection → Option (List ℕ)
alternate_of_nobody tables None = None
alternate_of_nobody tables (Some redirection) =
    if is_none (target_of tables redirection.to) then Some redirection.to else None

-- the station has a redirection, and it applies for no reason
abbrev pub redirects_never : Option Redirection → Bool
redirects_never None = false
redirects_never (Some redirection) = not (redirects redirection)
