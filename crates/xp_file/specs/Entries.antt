-- The content of the subscription file, table by table.
use Rattle.std.specs.Prelude.{ℕ, ◌<◌, ◌≤◌, List, Bool, false, Option, All, IsTrue, length}
use Rattle.xp_file.specs.declared.entry.Access.{Access}
use Rattle.xp_file.specs.declared.entry.Access.TheVariants.{Port, Router, Spare}
use Rattle.xp_file.specs.declared.entry.Facilities.{Facilities}
use Rattle.xp_file.specs.declared.entry.GroupEntry.{GroupEntry}
use Rattle.xp_file.specs.declared.entry.LineEntry.{LineEntry}
use Rattle.xp_file.specs.declared.entry.Redirection.{Redirection}
use Rattle.xp_file.specs.Name.{same, is_line_name}
use Rattle.xp_file.specs.Routers.{IsPort, IsRouter}
use Rattle.xp_file.specs.Sources.{AreSources}

-- a station
pub record StationData : Type 0 where
  pub address : List ℕ
  pub facilities : Facilities
  pub preferential : Option ℕ
  pub default_caller : Bool
  pub lines : List LineEntry
  pub groups : List GroupEntry
  pub redirect : Option Redirection

-- a valid port, or a valid router; a file has no spare line
abbrev pub IsAccess : Access → Type 0
IsAccess (Port port) = IsPort port
IsAccess (Router router) = IsRouter router
IsAccess Spare = ⊥

-- a line is behind the router with this address, whatever port of the router the file names
abbrev pub is_behind : List ℕ → Access → Bool
is_behind address (Port port) = false
is_behind address (Router router) = same router.address address
is_behind address Spare = false

-- the line has a valid name, a valid port or router, and at most 8 valid sources
pub record IsLineEntry (line : LineEntry) : Type 0 where
  pub spelled : IsTrue (is_line_name line.name)
  pub access : IsAccess line.access
  pub sources : AreSources line.from

-- the index has at most four digits
abbrev pub IsGroupEntry : GroupEntry → Type 0
IsGroupEntry group = group.index ≤ 9_999

-- the station has at least one line
pub record IsStationEntry (station : StationData) : Type 0 where
  pub some : 0 < length station.lines
  pub lines : All IsLineEntry station.lines
  pub groups : All IsGroupEntry station.groups

-- the most entries of a history to which the file sets no limit
abbrev pub no_journal_limit : ℕ
no_journal_limit = 576460752303423488

-- the limits that a file sets are in their ranges: of the segments of a call in one direction, and of the entries of
-- the history
pub record AreLimits (segment_limit journal : ℕ) : Type 0 where
  pub some_segment : 1 ≤ segment_limit
  pub eight_digits : segment_limit ≤ 99_999_999
  pub least_entries : 4 ≤ journal
  pub most_entries : journal ≤ no_journal_limit
