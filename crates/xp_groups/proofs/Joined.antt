-- What an intent and an admission show of the two stations.
use Rattle.std.proofs.Common.{◌≡◌, ℕ, true, false, Bool, Option, None, Some, Result, Ok, inl, inr, sym, ◌∙◌, ap, nat_eq, eqb-true}
use Rattle.std.specs.List.{Contains}
use Rattle.std.proofs.lemmas.Bool.{and_parts}
use Rattle.xp_facilities.specs.declared.selection.Selection.{Selection}
use Rattle.xp_subs.specs.declared.station.Station.{Station}
use Rattle.xp_subs.specs.declared.station.Membership.{Membership}
use Rattle.xp_groups.specs.declared.intention.Intent.{Intent}
use Rattle.xp_groups.specs.declared.admission.Admission.{Admission}
use Rattle.xp_causes.specs.declared.refusal.Refusal.{Refusal}
use Rattle.xp_groups.specs.Groups.{selected_if_any, membership_in}
use Rattle.xp_groups.specs.Intends.{Intends, outside_only, Prefers}
use Rattle.xp_groups.specs.Intends as intends
use Rattle.xp_groups.specs.Admits.{Admits, Enters, from_outside}
use Rattle.xp_groups.specs.Admits as admits
use Rattle.xp_groups.specs.MayJoin.{MayJoin, ReachesOutside}
use Rattle.xp_subs.proofs.Found.{find_some}

-- a membership by which a call in this group goes out
pub record GoesOut (caller : Station) (group : ℕ) : Type 0 where
  pub out : Membership
  pub held : Contains caller.memberships.items out
  pub same_group : out.group ≡ group
  pub not_barred : out.outgoing_barred ≡ false

-- what an intent shows of its caller
pub record Shows (caller : Station) (intent : Intent) : Type 0 where
  pub within : (group : ℕ) → intent.group ≡ Some group → GoesOut caller group
  pub outside : intent.outside ≡ true → ReachesOutside caller

preferred_held : (station : Station) (index : Option ℕ) (held : Membership) → selected_if_any station index ≡ Some held → Contains station.memberships.items held
preferred_held station None held e = cc
preferred_held station (Some index) held e = (find_some _ _ held e).0

shows_outside : (caller : Station) (intent : Intent) → ReachesOutside caller → ◌≡◌ {A = Result Intent Refusal} (Ok intent) (Ok outside_only) → Shows caller intent
shows_outside caller intent reaches e =
    let same : intent ≡ outside_only = cc in
    record {
      within = λ group h. cc (ap (λ (i : Intent). i.group) same);
      outside = λ _. reaches;
    }

shows_within : (caller : Station) (intent : Intent) (held : Membership) (open_too : Bool)
    → Contains caller.memberships.items held → held.outgoing_barred ≡ false → (open_too ≡ true → ReachesOutside caller)
    → ◌≡◌ {A = Result Intent Refusal} (Ok intent) (Ok (record { group = Some held.group; outside = open_too })) → Shows caller intent
shows_within caller intent held open_too contains not_barred reaches e =
    let same : intent ≡ record { group = Some held.group; outside = open_too } = cc in
    record {
      within = λ group h. record {
        out = held;
        held = contains;
        same_group = cc (ap (λ (i : Intent). i.group) same);
        not_barred = not_barred;
      };
      outside = λ h. reaches (sym (ap (λ (i : Intent). i.outside) same) ∙ h);
    }

pub shows : (caller : Station) (selection : Selection) (intent : Intent) → Intends caller selection (Ok intent) → Shows caller intent
shows caller selection intent (intends.no_groups none _ e) = shows_outside caller intent (inl none) e
shows caller selection intent (intends.no_groups_to_select _ _ e) = cc
shows caller selection intent (intends.closed index held _ _ is not_barred e) =
    shows_within caller intent held false (find_some _ _ held is).0 not_barred (λ h. cc) e
shows caller selection intent (intends.closed_barred _ _ _ _ _ _ e) = cc
shows caller selection intent (intends.closed_not_known _ _ _ _ e) = cc
shows caller selection intent (intends.no_outgoing_access _ _ _ _ e) = cc
shows caller selection intent (intends.with_outside_access_not_known _ _ _ _ _ e) = cc
shows caller selection intent (intends.with_outside_access_barred _ _ _ _ access _ _ e) = shows_outside caller intent (inr access) e
shows caller selection intent (intends.with_outside_access _ held _ _ access is not_barred e) =
    shows_within caller intent held true (find_some _ _ held is).0 not_barred (λ _. inr access) e
shows caller selection intent (intends.preferential held _ _ (is, not_barred) _ e) =
    shows_within caller intent held false (preferred_held caller _ held is) not_barred (λ h. cc) e
shows caller selection intent (intends.preferential_open held _ _ (is, not_barred) access e) =
    shows_within caller intent held true (preferred_held caller _ held is) not_barred (λ _. inr access) e
shows caller selection intent (intends.outgoing_access _ _ _ access e) = shows_outside caller intent (inr access) e
shows caller selection intent (intends.no_way_out _ _ _ _ e) = cc

-- the station's part in a group is a membership of that group
pub part_held : (station : Station) (group : Option ℕ) (held : Membership) → membership_in station group ≡ Some held
    → Contains station.memberships.items held × (group ≡ Some held.group)
part_held station None held e = cc
part_held station (Some group) held e =
    let f = find_some (λ (m : Membership). nat_eq m.group group) station.memberships.items held e in
    (f.0, ap Some (sym (eqb-true _ _ f.1)))

-- a call that comes in by a group that is its intent's
by_group : (caller called : Station) (intent : Intent) (into : Membership) → Shows caller intent → Enters intent called into → MayJoin caller called
by_group caller called intent into shown (is, not_barred) =
    let part = part_held called intent.group into is in
    let goes = shown.within into.group part.1 in
    inl (record {
      out = goes.out;
      into = into;
      callers = goes.held;
      calleds = part.0;
      same_group = goes.same_group;
      out_not_barred = goes.not_barred;
      into_not_barred = not_barred;
    })

pub may_join : (caller called : Station) (selection : Selection) (intent : Intent) (admission : Admission)
    → Intends caller selection (Ok intent) → Admits intent called (Ok admission) → MayJoin caller called
may_join caller called selection intent admission intended (admits.no_groups none outside _) =
    inr ((shows caller selection intent intended).outside outside, inl none)
may_join caller called selection intent admission intended (admits.no_groups_to_share _ _ e) = cc
may_join caller called selection intent admission intended (admits.within_group into _ enters _ _) =
    by_group caller called intent into (shows caller selection intent intended) enters
may_join caller called selection intent admission intended (admits.within_group_open into _ enters _ _) =
    by_group caller called intent into (shows caller selection intent intended) enters
may_join caller called selection intent admission intended (admits.incoming_access _ _ open_call _) =
    let parts = and_parts _ _ open_call in
    inr ((shows caller selection intent intended).outside parts.0, inr parts.1)
may_join caller called selection intent admission intended (admits.no_way_in _ _ _ e) = cc
