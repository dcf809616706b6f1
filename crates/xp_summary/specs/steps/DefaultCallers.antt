-- Which lines are behind routers, as the words of a summary ask for it.
use Rattle.std.specs.Prelude.{◌≡◌, ℕ, ◌<◌, List, false}
use Rattle.xp_file.specs.Entries.{is_behind}
use Rattle.xp_subs.specs.Tables.{Tables, is_router, line_at, line_count, station_of}

-- no line before this one is behind the router with this address
abbrev pub IsFirstBehind : Tables → ℕ → List ℕ → Type 0
IsFirstBehind tables line router = (earlier : ℕ) → earlier < line → is_behind router (line_at tables earlier).access ≡ false

-- no line of the station is behind a router
abbrev pub IsBehindNone : Tables → ℕ → Type 0
IsBehindNone tables station =
    (line : ℕ) → line < line_count tables → station_of tables line ≡ station → is_router (line_at tables line).access ≡ false
