-- Whether a station's subscription permits it to take a call (X.25 clauses 6.5, 6.14, 6.17 and 6.19).
use Rattle.std.specs.Prelude.{◌≡◌, true, false, Ok, Err}
use Rattle.xp_groups.specs.Admits.{Admits}
use Rattle.xp_groups.specs.declared.admission.Admission.{Admission}
use Rattle.xp_causes.specs.declared.refusal.Refusal.{Refusal}
use Rattle.xp_causes.specs.declared.refusal.TheConstants.Refusal.{INCOMING_CALLS_BARRED, REVERSE_CHARGING_NOT_ACCEPTED, FAST_SELECT_NOT_ACCEPTED}
use Rattle.xp_subs.specs.declared.station.Station.{Station}
use Rattle.xp_decide.specs.declared.acceptance.Wanted.{Wanted}

pub record Accepts (wanted : Wanted) (station : Station) (admission : Admission) : Type 0 where
  pub incoming : station.facilities.incoming_barred ≡ false
  pub admitted : Admits wanted.intent station (Ok admission)
  pub reverse : wanted.reverse ≡ true → station.facilities.reverse_charging ≡ true
  pub fast : wanted.fast ≡ true → station.facilities.fast_select ≡ true

-- the first reason, in the order of the checks, why the station does not take the call
pub data Declines (wanted : Wanted) (station : Station) (refusal : Refusal) : Type 0 where
  incoming_barred : station.facilities.incoming_barred ≡ true
      → refusal ≡ INCOMING_CALLS_BARRED → Declines wanted station refusal
  not_admitted : station.facilities.incoming_barred ≡ false → Admits wanted.intent station (Err refusal)
      → Declines wanted station refusal
  reverse_charging : (admission : Admission) → station.facilities.incoming_barred ≡ false → Admits wanted.intent station (Ok admission)
      → wanted.reverse ≡ true → station.facilities.reverse_charging ≡ false
      → refusal ≡ REVERSE_CHARGING_NOT_ACCEPTED → Declines wanted station refusal
  fast_select : (admission : Admission) → station.facilities.incoming_barred ≡ false → Admits wanted.intent station (Ok admission)
      → (wanted.reverse ≡ true → station.facilities.reverse_charging ≡ true)
      → wanted.fast ≡ true → station.facilities.fast_select ≡ false
      → refusal ≡ FAST_SELECT_NOT_ACCEPTED → Declines wanted station refusal
