-- The closed user groups of a station (X.25 clause 6.14).
use Rattle.std.specs.Prelude.{◌≡◌, ◌≢◌, ℕ, [], Option, None, Some, nat_eq}
use Rattle.std.specs.List.{find}
use Rattle.xp_subs.specs.declared.station.Station.{Station}
use Rattle.xp_subs.specs.declared.station.Membership.{Membership}

abbrev pub HasGroups : Station → Type 0
HasGroups station = station.memberships.items ≢ []

abbrev pub HasNoGroups : Station → Type 0
HasNoGroups station = station.memberships.items ≡ []

-- the membership that the station selects by this index
abbrev pub selected : Station → ℕ → Option Membership
selected station index = find (λ held. nat_eq held.index index) station.memberships.items

-- the station's membership of this group
abbrev pub membership_in : Station → Option ℕ → Option Membership
membership_in station None = None
membership_in station (Some group) = find (λ held. nat_eq held.group group) station.memberships.items

abbrev pub selected_if_any : Station → Option ℕ → Option Membership
selected_if_any station None = None
selected_if_any station (Some index) = selected station index

-- the station's membership of its preferential group
abbrev pub preferred : Station → Option Membership
preferred station = selected_if_any station station.preferential
