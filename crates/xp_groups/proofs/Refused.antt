-- Which refusals groups give.
use Rattle.std.proofs.Common.{◌≡◌, Result, Err, ◌⊎◌, inl, inr}
use Rattle.xp_facilities.specs.declared.selection.Selection.{Selection}
use Rattle.xp_subs.specs.declared.station.Station.{Station}
use Rattle.xp_groups.specs.declared.intention.Intent.{Intent}
use Rattle.xp_causes.specs.declared.refusal.Refusal.{Refusal}
use Rattle.xp_causes.specs.declared.refusal.TheConstants.Refusal.{ACCESS_BARRED, GROUP_NOT_KNOWN, FACILITY_NOT_ALLOWED}
use Rattle.xp_groups.specs.Intends.{Intends}
use Rattle.xp_groups.specs.Intends as intends
use Rattle.xp_groups.specs.Admits.{Admits}
use Rattle.xp_groups.specs.Admits as admits

abbrev pub IsGroupRefusal : Refusal → Type 0
IsGroupRefusal refusal = (refusal ≡ ACCESS_BARRED) ⊎ (refusal ≡ GROUP_NOT_KNOWN) ⊎ (refusal ≡ FACILITY_NOT_ALLOWED)

same : {X : Type 0} (one other : Refusal) → ◌≡◌ {A = Result X Refusal} (Err one) (Err other) → one ≡ other
same one other e = cc

pub intent_refusal : (station : Station) (selection : Selection) (refusal : Refusal) → Intends station selection (Err refusal) → IsGroupRefusal refusal
intent_refusal station selection refusal (intends.no_groups_to_select _ _ e) = inr (inr (same _ FACILITY_NOT_ALLOWED e))
intent_refusal station selection refusal (intends.closed_barred _ _ _ _ _ _ e) = inl (same _ ACCESS_BARRED e)
intent_refusal station selection refusal (intends.closed_not_known _ _ _ _ e) = inr (inl (same _ GROUP_NOT_KNOWN e))
intent_refusal station selection refusal (intends.no_outgoing_access _ _ _ _ e) = inr (inr (same _ FACILITY_NOT_ALLOWED e))
intent_refusal station selection refusal (intends.with_outside_access_not_known _ _ _ _ _ e) = inr (inl (same _ GROUP_NOT_KNOWN e))
intent_refusal station selection refusal (intends.no_way_out _ _ _ _ e) = inl (same _ ACCESS_BARRED e)
intent_refusal station selection refusal (intends.no_groups _ _ e) = cc
intent_refusal station selection refusal (intends.closed _ _ _ _ _ _ e) = cc
intent_refusal station selection refusal (intends.with_outside_access_barred _ _ _ _ _ _ _ e) = cc
intent_refusal station selection refusal (intends.with_outside_access _ _ _ _ _ _ _ e) = cc
intent_refusal station selection refusal (intends.preferential _ _ _ _ _ e) = cc
intent_refusal station selection refusal (intends.preferential_open _ _ _ _ _ e) = cc
intent_refusal station selection refusal (intends.outgoing_access _ _ _ _ e) = cc

pub admission_refusal : (intent : Intent) (station : Station) (refusal : Refusal) → Admits intent station (Err refusal) → IsGroupRefusal refusal
admission_refusal intent station refusal (admits.no_groups_to_share _ _ e) = inl (same _ ACCESS_BARRED e)
admission_refusal intent station refusal (admits.no_way_in _ _ _ e) = inl (same _ ACCESS_BARRED e)
admission_refusal intent station refusal (admits.no_groups _ _ e) = cc
admission_refusal intent station refusal (admits.within_group _ _ _ _ e) = cc
admission_refusal intent station refusal (admits.within_group_open _ _ _ _ e) = cc
admission_refusal intent station refusal (admits.incoming_access _ _ _ e) = cc
