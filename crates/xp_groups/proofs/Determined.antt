-- What is admitted isn't refused.
use Rattle.std.proofs.Common.{rules, Ok, Err}
use Rattle.xp_subs.specs.declared.station.Station.{Station}
use Rattle.xp_groups.specs.declared.intention.Intent.{Intent}
use Rattle.xp_groups.specs.declared.admission.Admission.{Admission}
use Rattle.xp_causes.specs.declared.refusal.Refusal.{Refusal}
use Rattle.xp_groups.specs.Admits.{Admits}
use Rattle.xp_groups.specs.Admits as admits
use Rattle.xp_groups.specs.Laws.{IntentIsDetermined, AdmissionIsDetermined}

pub admitted_or_refused : (intent : Intent) (station : Station) (admission : Admission) (refusal : Refusal)
    → Admits intent station (Ok admission) → Admits intent station (Err refusal) → ⊥
admitted_or_refused intent station admission refusal (admits.no_groups _ open_call _) (admits.no_groups_to_share _ closed_call _) = cc
admitted_or_refused intent station admission refusal (admits.no_groups none _ _) (admits.no_way_in some _ _ _) = some none
admitted_or_refused intent station admission refusal (admits.within_group _ some _ _ _) (admits.no_groups_to_share none _ _) = some none
admitted_or_refused intent station admission refusal (admits.within_group held _ (is, not_barred) _ _) (admits.no_way_in _ none _ _) = cc (none held is)
admitted_or_refused intent station admission refusal (admits.within_group_open _ some _ _ _) (admits.no_groups_to_share none _ _) = some none
admitted_or_refused intent station admission refusal (admits.within_group_open held _ (is, not_barred) _ _) (admits.no_way_in _ none _ _) = cc (none held is)
admitted_or_refused intent station admission refusal (admits.incoming_access some _ _ _) (admits.no_groups_to_share none _ _) = some none
admitted_or_refused intent station admission refusal (admits.incoming_access _ _ outside _) (admits.no_way_in _ _ not_outside _) = cc
admitted_or_refused intent station admission refusal (admits.no_groups_to_share _ _ e) other = cc
admitted_or_refused intent station admission refusal (admits.no_way_in _ _ _ e) other = cc
admitted_or_refused intent station admission refusal one (admits.no_groups _ _ e) = cc
admitted_or_refused intent station admission refusal one (admits.within_group _ _ _ _ e) = cc
admitted_or_refused intent station admission refusal one (admits.within_group_open _ _ _ _ e) = cc
admitted_or_refused intent station admission refusal one (admits.incoming_access _ _ _ e) = cc

pub intent_determined : IntentIsDetermined
intent_determined = search rules

pub admission_determined : AdmissionIsDetermined
admission_determined = search rules
