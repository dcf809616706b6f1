-- A station that would take a call doesn't decline it.
use Rattle.xp_groups.proofs.Determined.{admitted_or_refused}
use Rattle.xp_groups.specs.declared.admission.Admission.{Admission}
use Rattle.xp_causes.specs.declared.refusal.Refusal.{Refusal}
use Rattle.xp_subs.specs.declared.station.Station.{Station}
use Rattle.xp_decide.specs.Accepts.{Accepts, Declines}
use Rattle.xp_decide.specs.Accepts as accepts
use Rattle.xp_decide.specs.declared.acceptance.Wanted.{Wanted}

pub accepted_or_declined : (wanted : Wanted) (station : Station) (admission : Admission) (refusal : Refusal)
    → Accepts wanted station admission → Declines wanted station refusal → ⊥
accepted_or_declined wanted station admission refusal taken (accepts.incoming_barred barred _) = cc (taken.incoming)
accepted_or_declined wanted station admission refusal taken (accepts.not_admitted _ not_admitted) =
    admitted_or_refused _ _ _ _ taken.admitted not_admitted
accepted_or_declined wanted station admission refusal taken (accepts.reverse_charging _ _ _ wants not_taken _) = cc (taken.reverse wants)
accepted_or_declined wanted station admission refusal taken (accepts.fast_select _ _ _ _ wants not_taken _) = cc (taken.fast wants)
