-- Which calls a station admits, by its groups, and what the incoming call indicates (X.301; X.25 clause 6.14).
use Rattle.std.specs.Prelude.{◌≡◌, Bool, true, false, Some, Result, Ok, Err, ◌&&◌}
use Rattle.xp_facilities.specs.declared.selection.Selection.TheVariants.{Nothing, Closed, WithOutsideAccess}
use Rattle.xp_subs.specs.declared.station.Station.{Station}
use Rattle.xp_subs.specs.declared.station.Membership.{Membership}
use Rattle.xp_groups.specs.declared.intention.Intent.{Intent}
use Rattle.xp_groups.specs.declared.admission.Admission.{Admission}
use Rattle.xp_causes.specs.declared.refusal.Refusal.{Refusal}
use Rattle.xp_causes.specs.declared.refusal.TheConstants.Refusal.{ACCESS_BARRED}
use Rattle.xp_groups.specs.Groups.{HasGroups, HasNoGroups, membership_in}

-- the station is a member of the call's group, and incoming calls are not barred to it there
abbrev pub Enters : Intent → Station → Membership → Type 0
Enters intent station held = (membership_in station intent.group ≡ Some held) × (held.incoming_barred ≡ false)

abbrev pub EntersNone : Intent → Station → Type 0
EntersNone intent station = (held : Membership) → membership_in station intent.group ≡ Some held → held.incoming_barred ≡ true

-- the call has outside access, and the station takes calls from outside its groups
abbrev pub from_outside : Intent → Station → Bool
from_outside intent station = intent.outside && station.facilities.incoming_access

pub data Admits (intent : Intent) (station : Station) (result : Result Admission Refusal) : Type 0 where
  -- the station has no groups
  no_groups : HasNoGroups station → intent.outside ≡ true
      → result ≡ Ok (record { indicated = Nothing }) → Admits intent station result
  no_groups_to_share : HasNoGroups station → intent.outside ≡ false
      → result ≡ Err ACCESS_BARRED → Admits intent station result
  -- the call may come in through its group
  within_group : (held : Membership) → HasGroups station → Enters intent station held
      → from_outside intent station ≡ false
      → result ≡ Ok (record { indicated = Closed held.index }) → Admits intent station result
  within_group_open : (held : Membership) → HasGroups station → Enters intent station held
      → from_outside intent station ≡ true
      → result ≡ Ok (record { indicated = WithOutsideAccess held.index }) → Admits intent station result
  -- the call may not come in through a group
  incoming_access : HasGroups station → EntersNone intent station
      → from_outside intent station ≡ true
      → result ≡ Ok (record { indicated = Nothing }) → Admits intent station result
  no_way_in : HasGroups station → EntersNone intent station
      → from_outside intent station ≡ false
      → result ≡ Err ACCESS_BARRED → Admits intent station result
