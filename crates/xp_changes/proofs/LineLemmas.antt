-- The lines of a station.
use Rattle.std.proofs.Common.{ℕ, ◌<◌, length, slice_index_or}
use Rattle.std.proofs.lemmas.List.Elements.{Contains-get_or}
use Rattle.xp_subs.proofs.There.{there_of_own}
use Rattle.xp_subs.specs.Sound.{IsSound}
use Rattle.xp_subs.specs.Tables.{IsThere, Tables, station_at, station_count}

-- they are there
pub line_of_station : (tables : Tables) (station place : ℕ) → IsSound tables → station < station_count tables
    → place < length (station_at tables station).lines.items
    → IsThere tables (slice_index_or (station_at tables station).lines.items place 0)
line_of_station tables station place sound known at =
    let lines = (station_at tables station).lines.items in
    there_of_own tables station (slice_index_or lines place 0) sound known (Contains-get_or lines place 0 at)
