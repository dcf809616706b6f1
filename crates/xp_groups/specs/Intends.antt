-- How a station may make a call, by its groups and its selection (X.301; X.25 clauses 6.14.1 to 6.14.7).
use Rattle.std.specs.Prelude.{◌≡◌, ◌≢◌, ℕ, true, false, None, Some, Result, Ok, Err}
use Rattle.xp_facilities.specs.declared.selection.Selection.{Selection}
use Rattle.xp_facilities.specs.declared.selection.Selection.TheVariants.{Nothing, Closed, WithOutsideAccess}
use Rattle.xp_subs.specs.declared.station.Station.{Station}
use Rattle.xp_subs.specs.declared.station.Membership.{Membership}
use Rattle.xp_groups.specs.declared.intention.Intent.{Intent}
use Rattle.xp_causes.specs.declared.refusal.Refusal.{Refusal}
use Rattle.xp_causes.specs.declared.refusal.TheConstants.Refusal.{ACCESS_BARRED, GROUP_NOT_KNOWN, FACILITY_NOT_ALLOWED}
use Rattle.xp_groups.specs.Groups.{HasGroups, HasNoGroups, selected, preferred}

-- the intent of a call within a group alone, within a group with outside access, and with outside access alone
abbrev pub within : Membership → Intent
within held = record { group = Some held.group; outside = false }

abbrev pub within_or_outside : Membership → Intent
within_or_outside held = record { group = Some held.group; outside = true }

abbrev pub outside_only : Intent
outside_only = record { group = None; outside = true }

-- the group of a call that selects none: the preferential group, unless outgoing calls are barred in it
abbrev pub Prefers : Station → Membership → Type 0
Prefers station held = (preferred station ≡ Some held) × (held.outgoing_barred ≡ false)

abbrev pub PrefersNone : Station → Type 0
PrefersNone station = (held : Membership) → preferred station ≡ Some held → held.outgoing_barred ≡ true

pub data Intends (station : Station) (selection : Selection) (result : Result Intent Refusal) : Type 0 where
  -- the station has no groups
  no_groups : HasNoGroups station → selection ≡ Nothing
      → result ≡ Ok outside_only → Intends station selection result
  no_groups_to_select : HasNoGroups station → selection ≢ Nothing
      → result ≡ Err FACILITY_NOT_ALLOWED → Intends station selection result
  -- the station selects a group
  closed : (index : ℕ) (held : Membership) → HasGroups station → selection ≡ Closed index
      → selected station index ≡ Some held → held.outgoing_barred ≡ false
      → result ≡ Ok (within held) → Intends station selection result
  closed_barred : (index : ℕ) (held : Membership) → HasGroups station → selection ≡ Closed index
      → selected station index ≡ Some held → held.outgoing_barred ≡ true
      → result ≡ Err ACCESS_BARRED → Intends station selection result
  closed_not_known : (index : ℕ) → HasGroups station → selection ≡ Closed index
      → selected station index ≡ None
      → result ≡ Err GROUP_NOT_KNOWN → Intends station selection result
  -- the station selects a group with outgoing access
  no_outgoing_access : (index : ℕ) → HasGroups station → selection ≡ WithOutsideAccess index
      → station.facilities.outgoing_access ≡ false
      → result ≡ Err FACILITY_NOT_ALLOWED → Intends station selection result
  with_outside_access_not_known : (index : ℕ) → HasGroups station → selection ≡ WithOutsideAccess index
      → station.facilities.outgoing_access ≡ true → selected station index ≡ None
      → result ≡ Err GROUP_NOT_KNOWN → Intends station selection result
  with_outside_access_barred : (index : ℕ) (held : Membership) → HasGroups station → selection ≡ WithOutsideAccess index
      → station.facilities.outgoing_access ≡ true → selected station index ≡ Some held → held.outgoing_barred ≡ true
      → result ≡ Ok outside_only → Intends station selection result
  with_outside_access : (index : ℕ) (held : Membership) → HasGroups station → selection ≡ WithOutsideAccess index
      → station.facilities.outgoing_access ≡ true → selected station index ≡ Some held → held.outgoing_barred ≡ false
      → result ≡ Ok (within_or_outside held) → Intends station selection result
  -- the station selects no group
  preferential : (held : Membership) → HasGroups station → selection ≡ Nothing
      → Prefers station held → station.facilities.outgoing_access ≡ false
      → result ≡ Ok (within held) → Intends station selection result
  preferential_open : (held : Membership) → HasGroups station → selection ≡ Nothing
      → Prefers station held → station.facilities.outgoing_access ≡ true
      → result ≡ Ok (within_or_outside held) → Intends station selection result
  outgoing_access : HasGroups station → selection ≡ Nothing
      → PrefersNone station → station.facilities.outgoing_access ≡ true
      → result ≡ Ok outside_only → Intends station selection result
  no_way_out : HasGroups station → selection ≡ Nothing
      → PrefersNone station → station.facilities.outgoing_access ≡ false
      → result ≡ Err ACCESS_BARRED → Intends station selection result
