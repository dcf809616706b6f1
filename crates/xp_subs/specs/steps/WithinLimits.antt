-- The limits of an exchange, which a subscription file has passed when its tables are built.
use Rattle.std.specs.Prelude.{ℕ, ◌≤◌, ◌*◌, List, All, length}
use Rattle.xp_file.specs.Entries.{StationData, IsStationEntry}
use Rattle.xp_subs.specs.Bounds.{most_lines, most_stations}
use Rattle.xp_subs.specs.Passes.{line_total}

-- the most groups of an exchange: its stations have 64 each, and no two share one
abbrev pub most_groups : ℕ
most_groups = 64 * most_stations

-- a station within the limits
pub record IsStationWithinLimits (station : StationData) : Type 0 where
  pub lines : length station.lines ≤ 32
  pub groups : length station.groups ≤ 64
  pub entry : IsStationEntry station

pub record AreWithinLimits (stations : List StationData) : Type 0 where
  pub few : length stations ≤ most_stations
  pub lines : line_total stations ≤ most_lines
  pub each : All IsStationWithinLimits stations
