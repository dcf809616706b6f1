-- Which stations a call may join, according to closed user groups (X.301). This rule does not depend on selections,
-- preferential groups or the order of checks.
use Rattle.std.specs.Prelude.{◌≡◌, true, false, Contains, ◌⊎◌}
use Rattle.xp_subs.specs.declared.station.Station.{Station}
use Rattle.xp_subs.specs.declared.station.Membership.{Membership}
use Rattle.xp_groups.specs.Groups.{HasNoGroups}

-- Both stations are members of one group. Outgoing calls are not barred to the caller there, and incoming calls are
-- not barred to the called station.
pub record ShareGroup (caller called : Station) : Type 0 where
  pub out : Membership
  pub into : Membership
  pub callers : Contains caller.memberships.items out
  pub calleds : Contains called.memberships.items into
  pub same_group : out.group ≡ into.group
  pub out_not_barred : out.outgoing_barred ≡ false
  pub into_not_barred : into.incoming_barred ≡ false

-- the station may call stations outside its groups
abbrev pub ReachesOutside : Station → Type 0
ReachesOutside station = HasNoGroups station ⊎ (station.facilities.outgoing_access ≡ true)

-- stations outside its groups may call the station
abbrev pub ReachedFromOutside : Station → Type 0
ReachedFromOutside station = HasNoGroups station ⊎ (station.facilities.incoming_access ≡ true)

-- closed user groups permit a call from the one station to the other
abbrev pub MayJoin : Station → Station → Type 0
MayJoin caller called = ShareGroup caller called ⊎ (ReachesOutside caller × ReachedFromOutside called)
