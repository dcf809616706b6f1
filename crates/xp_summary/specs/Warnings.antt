-- What a person should look at again in a station.
use Rattle.std.specs.Prelude.{◌≡◌, ℕ, ◌<◌, Bool, Option, None, Some, option_map, IsTrue, ◌↔◌, if◌then◌else◌, nat_eq}
use Rattle.std.specs.List.{list_any}
use Rattle.xp_groups.specs.Groups.{preferred}
use Rattle.xp_subs.specs.declared.station.Membership.{Membership}
use Rattle.xp_subs.specs.declared.station.Station.{Station}
use Rattle.xp_subs.specs.Tables.{Tables, station_at, station_count}
use Rattle.xp_summary.specs.Reach.{IsReach}
use Rattle.xp_summary.specs.Redirections.{IsInCircle, alternate_of_nobody, redirects_never}
use Rattle.xp_summary.specs.declared.reach.Reach.TheVariants.{Plain, Selecting}
use Rattle.xp_summary.specs.declared.station_warnings.StationWarnings.{StationWarnings}

abbrev pub barred_only : Option Membership → Option Membership
barred_only None = None
barred_only (Some held) = if held.outgoing_barred then Some held else None

-- the station's preferential group, where outgoing calls are barred in it: a call without a selection is not made in it
abbrev pub barred_preferential : Station → Option Membership
barred_preferential station = barred_only (preferred station)

-- some station is reached with a selection of a group alone, and none without
pub record NeedsSelection (tables : Tables) (caller : ℕ) : Type 0 where
  pub called : ℕ
  pub known : called < station_count tables
  pub selecting : IsReach tables caller called Selecting
  pub never_plain : (other : ℕ) → other < station_count tables → IsReach tables caller other Plain → ⊥

pub record Warns (tables : Tables) (station : ℕ) (warnings : StationWarnings) : Type 0 where
  pub circle : IsTrue warnings.in_circle ↔ IsInCircle tables station
  pub nobody : option_map (λ address. address.now) warnings.alternate_of_nobody ≡ alternate_of_nobody tables (station_at tables station).redirect
  pub never : warnings.redirects_never ≡ redirects_never (station_at tables station).redirect
  pub barred : warnings.barred_preferential ≡ barred_preferential (station_at tables station)
  pub selection : IsTrue warnings.needs_selection ↔ NeedsSelection tables station

-- the station is in the group
abbrev pub is_in : Station → ℕ → Bool
is_in station group = list_any (λ held. nat_eq held.group group) station.memberships.items

-- no other station is in the group
abbrev pub IsAlone : Tables → ℕ → ℕ → Type 0
IsAlone tables station group =
    (other : ℕ) → other < station_count tables → IsTrue (is_in (station_at tables other) group) → other ≡ station
