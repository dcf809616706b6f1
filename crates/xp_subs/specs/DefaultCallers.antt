-- The default callers of XOT routers. A router has at most one: the station that takes the router's calls whose calling address is
-- missing, or is that of no station behind the router.
use Rattle.std.specs.Prelude.{◌≡◌, ℕ, List, ◌∷◌, ◌++◌, Contains, IsTrue}
use Rattle.xp_file.specs.declared.entry.LineEntry.{LineEntry}
use Rattle.xp_file.specs.Entries.{StationData, is_behind}

-- the station is a default caller of the router with this address: it has the key, and a line behind the router
pub record IsDefaultCaller (router : List ℕ) (station : StationData) : Type 0 where
  pub told : IsTrue station.default_caller
  pub line : LineEntry
  pub own : Contains station.lines line
  pub behind : IsTrue (is_behind router line.access)

-- two stations are default callers of one router
pub record HasTwoDefaultCallers (stations : List StationData) : Type 0 where
  pub router : List ℕ
  pub before : List StationData
  pub one : StationData
  pub between : List StationData
  pub other : StationData
  pub after : List StationData
  pub split : stations ≡ before ++ one ∷ between ++ other ∷ after
  pub first : IsDefaultCaller router one
  pub second : IsDefaultCaller router other
