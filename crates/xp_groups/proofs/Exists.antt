-- Groups answer every selection and every intent.
use Rattle.std.proofs.Common.{◌≡◌, ℕ, Bool, true, false, Option, None, Some, Result, Ok, Err, inl, inr, refl, subst}
use Rattle.xp_facilities.specs.declared.selection.Selection.{Selection}
use Rattle.xp_facilities.specs.declared.selection.Selection.TheVariants.{Nothing, Closed, WithOutsideAccess}
use Rattle.xp_subs.specs.declared.station.Station.{Station}
use Rattle.xp_subs.specs.declared.station.Membership.{Membership}
use Rattle.xp_groups.specs.declared.intention.Intent.{Intent}
use Rattle.xp_groups.specs.declared.admission.Admission.{Admission}
use Rattle.xp_causes.specs.declared.refusal.Refusal.{Refusal}
use Rattle.xp_causes.specs.declared.refusal.TheConstants.Refusal.{ACCESS_BARRED, GROUP_NOT_KNOWN, FACILITY_NOT_ALLOWED}
use Rattle.xp_groups.specs.Groups.{HasGroups, HasNoGroups, selected, preferred, membership_in}
use Rattle.xp_groups.specs.Intends.{Intends, outside_only, within, within_or_outside, PrefersNone}
use Rattle.xp_groups.specs.Intends as intends
use Rattle.xp_groups.specs.Admits.{Admits, EntersNone, from_outside}
use Rattle.xp_groups.specs.Admits as admits
use Rattle.xp_groups.proofs.Answered.{grouped}

-- what a look for a membership finds: none, one with such calls barred, or one where they may go
data Found (looked : Option Membership) (is_barred : Membership → Bool) : Type 0 where
  nobody : looked ≡ None → Found looked is_barred
  barred : (held : Membership) → looked ≡ Some held → is_barred held ≡ true → Found looked is_barred
  may_go : (held : Membership) → looked ≡ Some held → is_barred held ≡ false → Found looked is_barred

found : (looked : Option Membership) (is_barred : Membership → Bool) → Found looked is_barred
found None is_barred = nobody refl
found (Some held) is_barred = by (is_barred held) refl where
  by : (bars : Bool) → is_barred held ≡ bars → Found (Some held) is_barred
  by true is = barred held refl is
  by false is = may_go held refl is

-- calls are barred in each membership that was found
barred_in_each : (looked : Option Membership) (is_barred : Membership → Bool) (held other : Membership)
    → looked ≡ Some held → is_barred held ≡ true → looked ≡ Some other → is_barred other ≡ true
barred_in_each looked is_barred held other is bars also =
    let same : held ≡ other = cc in
    let P : Membership → Type 0 = λ m. is_barred m ≡ true in subst P same bars

abbrev out : Membership → Bool
out held = held.outgoing_barred

abbrev into : Membership → Bool
into held = held.incoming_barred

module _ (station : Station) where
  abbrev IntendsSome : Selection → Type 0
  IntendsSome selection = (result : Result Intent Refusal) × Intends station selection result

  without_groups : (selection : Selection) → HasNoGroups station → IntendsSome selection
  without_groups Nothing none = (Ok outside_only, intends.no_groups none refl refl)
  without_groups (Closed index) none = (Err FACILITY_NOT_ALLOWED, intends.no_groups_to_select none (λ e. cc) refl)
  without_groups (WithOutsideAccess index) none = (Err FACILITY_NOT_ALLOWED, intends.no_groups_to_select none (λ e. cc) refl)

  closed : (index : ℕ) → HasGroups station → Found (selected station index) out → IntendsSome (Closed index)
  closed index groups (nobody none) = (Err GROUP_NOT_KNOWN, intends.closed_not_known index groups refl none refl)
  closed index groups (barred held is bars) = (Err ACCESS_BARRED, intends.closed_barred index held groups refl is bars refl)
  closed index groups (may_go held is clear) = (Ok (within held), intends.closed index held groups refl is clear refl)

  with_outside_access : (index : ℕ) → HasGroups station → (access : Bool) → station.facilities.outgoing_access ≡ access
      → Found (selected station index) out → IntendsSome (WithOutsideAccess index)
  with_outside_access index groups false access _ = (Err FACILITY_NOT_ALLOWED, intends.no_outgoing_access index groups refl access refl)
  with_outside_access index groups true access (nobody none) = (Err GROUP_NOT_KNOWN, intends.with_outside_access_not_known index groups refl access none refl)
  with_outside_access index groups true access (barred held is bars) = (Ok outside_only, intends.with_outside_access_barred index held groups refl access is bars refl)
  with_outside_access index groups true access (may_go held is clear) = (Ok (within_or_outside held), intends.with_outside_access index held groups refl access is clear refl)

  preferring_none : HasGroups station → (access : Bool) → station.facilities.outgoing_access ≡ access → PrefersNone station → IntendsSome Nothing
  preferring_none groups true access none = (Ok outside_only, intends.outgoing_access groups refl none access refl)
  preferring_none groups false access none = (Err ACCESS_BARRED, intends.no_way_out groups refl none access refl)

  unselected : HasGroups station → (access : Bool) → station.facilities.outgoing_access ≡ access
      → Found (preferred station) out → IntendsSome Nothing
  unselected groups access is (nobody none) = preferring_none groups access is (λ held some. cc)
  unselected groups access is (barred held some bars) =
      preferring_none groups access is (λ other also. barred_in_each (preferred station) out held other some bars also)
  unselected groups true access (may_go held some clear) = (Ok (within_or_outside held), intends.preferential_open held groups refl (some, clear) access refl)
  unselected groups false access (may_go held some clear) = (Ok (within held), intends.preferential held groups refl (some, clear) access refl)

  with_groups : (selection : Selection) → HasGroups station → IntendsSome selection
  with_groups Nothing groups = unselected groups station.facilities.outgoing_access refl (found (preferred station) out)
  with_groups (Closed index) groups = closed index groups (found (selected station index) out)
  with_groups (WithOutsideAccess index) groups = with_outside_access index groups station.facilities.outgoing_access refl (found (selected station index) out)

pub intends_some : (station : Station) (selection : Selection) → (result : Result Intent Refusal) × Intends station selection result
intends_some station selection = elim (grouped station) [
  | inl none ↦ without_groups station selection none
  | inr groups ↦ with_groups station selection groups
]

module _ (intent : Intent) (station : Station) where
  abbrev AdmitsSome : Type 0
  AdmitsSome = (result : Result Admission Refusal) × Admits intent station result

  let_in_without : HasNoGroups station → (outside : Bool) → intent.outside ≡ outside → AdmitsSome
  let_in_without none true outside = (Ok (record { indicated = Nothing }), admits.no_groups none outside refl)
  let_in_without none false outside = (Err ACCESS_BARRED, admits.no_groups_to_share none outside refl)

  entering_none : HasGroups station → EntersNone intent station → (outside : Bool) → from_outside intent station ≡ outside → AdmitsSome
  entering_none groups none true outside = (Ok (record { indicated = Nothing }), admits.incoming_access groups none outside refl)
  entering_none groups none false outside = (Err ACCESS_BARRED, admits.no_way_in groups none outside refl)

  by_part : HasGroups station → (outside : Bool) → from_outside intent station ≡ outside → Found (membership_in station intent.group) into → AdmitsSome
  by_part groups outside is (nobody none) = entering_none groups (λ held some. cc) outside is
  by_part groups outside is (barred held some bars) =
      entering_none groups (λ other also. barred_in_each (membership_in station intent.group) into held other some bars also) outside is
  by_part groups true outside (may_go held some clear) =
      (Ok (record { indicated = WithOutsideAccess held.index }), admits.within_group_open held groups (some, clear) outside refl)
  by_part groups false outside (may_go held some clear) =
      (Ok (record { indicated = Closed held.index }), admits.within_group held groups (some, clear) outside refl)

pub admits_some : (intent : Intent) (station : Station) → (result : Result Admission Refusal) × Admits intent station result
admits_some intent station = elim (grouped station) [
  | inl none ↦ let_in_without intent station none intent.outside refl
  | inr groups ↦ by_part intent station groups (from_outside intent station) refl (found (membership_in station intent.group) into)
]
