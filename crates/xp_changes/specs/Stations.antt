-- The stations that change as other subscriptions take the place of the old ones.
use Rattle.std.specs.Prelude.{◌≡◌, ◌<◌, ℕ, List, [], ◌∷◌, Option, None, Some, false, length, option_map, slice_get, slice_index_or}
use Rattle.std.specs.Option.{option_or}
use Rattle.xp_changes.specs.Numbers.{AreAllOf}
use Rattle.xp_file.specs.declared.entry.Facilities.{Facilities}
use Rattle.xp_file.specs.declared.entry.Redirection.{Redirection}
use Rattle.xp_subs.specs.Tables.{Tables, line_at, line_named_of, station_at, station_of}
use Rattle.xp_subs.specs.declared.station.Membership.{Membership}
use Rattle.xp_subs.specs.declared.station.Station.{Station}

-- the line in this place of a station, and the group
abbrev pub line_in : Station → ℕ → ℕ
line_in station place = slice_index_or station.lines.items place 0

abbrev pub no_membership : Membership
no_membership = record { group = 0; index = 0; outgoing_barred = false; incoming_barred = false }

abbrev pub group_in : Station → ℕ → Membership
group_in station place = slice_index_or station.memberships.items place no_membership

-- a group of the same name, by the same index, with the same calls barred
pub record IsSameMembership (old new : Tables) (before after : Membership) : Type 0 where
  pub group : slice_get new.groups after.group ≡ slice_get old.groups before.group
  pub index : after.index ≡ before.index
  pub outgoing_barred : after.outgoing_barred ≡ before.outgoing_barred
  pub incoming_barred : after.incoming_barred ≡ before.incoming_barred

-- the same closed user groups in the same order, of which the same one is preferential
pub record HasSameGroups (old new : Tables) (before after : Station) : Type 0 where
  pub preferential : after.preferential ≡ before.preferential
  pub count : length after.memberships.items ≡ length before.memberships.items
  pub each : (place : ℕ) → place < length before.memberships.items → IsSameMembership old new (group_in before place) (group_in after place)

-- a line of the same name, with the same port or router, the same address of its own or none, and the same addresses from which it may
-- connect
pub record IsSameLine (old new : Tables) (before after : ℕ) : Type 0 where
  pub name : (line_at new after).name ≡ (line_at old before).name
  pub access : (line_at new after).access ≡ (line_at old before).access
  pub address : (line_at new after).address ≡ (line_at old before).address
  pub sources : (line_at new after).from ≡ (line_at old before).from

-- the same lines in the same order
pub record HasSameLines (old new : Tables) (before after : Station) : Type 0 where
  pub count : length after.lines.items ≡ length before.lines.items
  pub each : (place : ℕ) → place < length before.lines.items → IsSameLine old new (line_in before place) (line_in after place)

-- the same calls barred, within closed user groups and beyond them
pub record HasSameBars (before after : Facilities) : Type 0 where
  pub outgoing_barred : after.outgoing_barred ≡ before.outgoing_barred
  pub incoming_barred : after.incoming_barred ≡ before.incoming_barred
  pub outgoing_access : after.outgoing_access ≡ before.outgoing_access
  pub incoming_access : after.incoming_access ≡ before.incoming_access

-- the same calls accepted
pub record AcceptsSame (before after : Facilities) : Type 0 where
  pub reverse_charging : after.reverse_charging ≡ before.reverse_charging
  pub fast_select : after.fast_select ≡ before.fast_select

-- redirected to the same address, for the same reasons
pub record IsSameRedirection (before after : Redirection) : Type 0 where
  pub to : after.to ≡ before.to
  pub systematic : after.systematic ≡ before.systematic
  pub busy : after.busy ≡ before.busy
  pub out_of_order : after.out_of_order ≡ before.out_of_order

abbrev pub AreSameRedirections : Option Redirection → Option Redirection → Type 0
AreSameRedirections None None = Unit {0}
AreSameRedirections None (Some after) = ⊥
AreSameRedirections (Some before) None = ⊥
AreSameRedirections (Some before) (Some after) = IsSameRedirection before after

-- the same address and redirection, and the same answer to whether it takes the calls that no station knows as its own
pub record HasSameValues (before after : Station) : Type 0 where
  pub address : after.address ≡ before.address
  pub default_caller : after.default_caller ≡ before.default_caller
  pub redirect : AreSameRedirections before.redirect after.redirect

pub record IsSameStation (old new : Tables) (before after : Station) : Type 0 where
  pub same_values : HasSameValues before after
  pub bars : HasSameBars before.facilities after.facilities
  pub accepts : AcceptsSame before.facilities after.facilities
  pub groups : HasSameGroups old new before after
  pub lines : HasSameLines old new before after

-- the old line with the name of the first of these lines that has one
abbrev pub line_before : Tables → Tables → List ℕ → Option ℕ
line_before old new [] = None
line_before old new (line ∷ lines) = option_or (line_named_of old (line_at new line).name) (line_before old new lines)

-- the old station of a station: the one that has the old line with the name of the first of its lines that has one
abbrev pub station_before : Tables → Tables → ℕ → Option ℕ
station_before old new station = option_map (station_of old) (line_before old new (station_at new station).lines.items)

-- the station was there before, and stays as it was
pub record IsUnchanged (old new : Tables) (station : ℕ) : Type 0 where
  pub before : ℕ
  pub found : station_before old new station ≡ Some before
  pub same : IsSameStation old new (station_at old before) (station_at new station)

-- those of the first stations, as many as `count` says, that do not, in ascending order
abbrev pub AreChanged : Tables → Tables → ℕ → List ℕ → Type 0
AreChanged old new count stations = AreAllOf (λ station. IsUnchanged old new station → ⊥) count stations
