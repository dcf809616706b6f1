-- The rules for a member of a group, with the openness as one value.
use Rattle.std.proofs.Common.{◌≡◌, ℕ, true, false, Bool, nat_eq, List, [], ◌∷◌, Option, None, Some, Ok, Err, ◌⊎◌, inl, inr, refl, sym, ◌∙◌, ap, subst}
use Rattle.std.specs.List.{find}
use Rattle.std.specs.Bool.{IsTrue}
use Rattle.xp_facilities.specs.declared.selection.Selection.{Selection}
use Rattle.xp_facilities.specs.declared.selection.Selection.TheVariants.{Nothing, Closed, WithOutsideAccess}
use Rattle.xp_subs.specs.declared.station.Station.{Station}
use Rattle.xp_subs.specs.declared.station.Membership.{Membership}
use Rattle.xp_groups.specs.declared.intention.Intent.{Intent}
use Rattle.xp_causes.specs.declared.refusal.TheConstants.Refusal.{ACCESS_BARRED}
use Rattle.xp_groups.specs.Groups.{HasGroups, HasNoGroups, preferred, membership_in}
use Rattle.xp_groups.specs.Intends.{Intends, preferential, preferential_open}
use Rattle.xp_groups.specs.Admits.{Admits, EntersNone, from_outside}
use Rattle.xp_groups.specs.Admits as admits

pub prefers : (station : Station) (held : Membership) (made : Intent) (access : Bool) → station.facilities.outgoing_access ≡ access
    → HasGroups station → preferred station ≡ Some held → held.outgoing_barred ≡ false
    → made ≡ record { group = Some held.group; outside = access } → Intends station Nothing (Ok made)
prefers station held made true access groups is not_barred e = preferential_open held groups refl (is, not_barred) access (ap Ok e)
prefers station held made false access groups is not_barred e = preferential held groups refl (is, not_barred) access (ap Ok e)

pub grouped : (station : Station) → HasNoGroups station ⊎ HasGroups station
grouped station = by station.memberships.items refl where
  by : (held : List Membership) → station.memberships.items ≡ held → HasNoGroups station ⊎ HasGroups station
  by [] none = inl none
  by (first ∷ more) some = inr (λ none. cc)

-- a station with a part in a group has groups
part_of_groups : (station : Station) (group : Option ℕ) (held : Membership) → membership_in station group ≡ Some held → HasGroups station
part_of_groups station None held is none = cc
part_of_groups station (Some group) held is none =
    let P : List Membership → Type 0 = λ all. find (λ m. nat_eq m.group group) all ≡ Some held in
    let nobody : None ≡ Some held = subst P none is in cc

module _ (intent : Intent) (station : Station) (outside : Bool)
    (no_groups : HasNoGroups station → outside ≡ intent.outside)
    (groups : HasGroups station → outside ≡ from_outside intent station) where
  by_part : (held : Membership) (told : Selection) (open_call : Bool) → open_call ≡ from_outside intent station
      → HasGroups station → membership_in station intent.group ≡ Some held → held.incoming_barred ≡ false
      → (IsTrue open_call → told ≡ WithOutsideAccess held.index) → (open_call ≡ false → told ≡ Closed held.index)
      → Admits intent station (Ok (record { indicated = told }))
  by_part held told true is some part not_barred with_outside_access closed =
      admits.within_group_open held some (part, not_barred) (sym is) (ap (λ t. Ok (record { indicated = t })) (with_outside_access refl))
  by_part held told false is some part not_barred with_outside_access closed =
      admits.within_group held some (part, not_barred) (sym is) (ap (λ t. Ok (record { indicated = t })) (closed refl))

  pub entered : (held : Membership) (told : Selection) → membership_in station intent.group ≡ Some held → held.incoming_barred ≡ false
      → (IsTrue outside → told ≡ WithOutsideAccess held.index) → (outside ≡ false → told ≡ Closed held.index)
      → Admits intent station (Ok (record { indicated = told }))
  entered held told part not_barred with_outside_access closed =
      let some = part_of_groups station intent.group held part in
      by_part held told outside (groups some) some part not_barred with_outside_access closed

  pub let_in : EntersNone intent station → outside ≡ true → Admits intent station (Ok (record { indicated = Nothing }))
  let_in none open_call = elim (grouped station) [
    | inl without ↦ admits.no_groups without (sym (no_groups without) ∙ open_call) refl
    | inr some ↦ admits.incoming_access some none (sym (groups some) ∙ open_call) refl
  ]

  pub kept_out : EntersNone intent station → outside ≡ false → Admits intent station (Err ACCESS_BARRED)
  kept_out none closed_call = elim (grouped station) [
    | inl without ↦ admits.no_groups_to_share without (sym (no_groups without) ∙ closed_call) refl
    | inr some ↦ admits.no_way_in some none (sym (groups some) ∙ closed_call) refl
  ]
