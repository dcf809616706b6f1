-- The result of asking a station whether it takes a call: its admission, or the first refusal (X.25 clauses 6.5,
-- 6.14, 6.17 and 6.19).
use Rattle.std.specs.Prelude.{Result, Ok, Err}
use Rattle.xp_groups.specs.declared.admission.Admission.{Admission}
use Rattle.xp_causes.specs.declared.refusal.Refusal.{Refusal}
use Rattle.xp_subs.specs.declared.station.Station.{Station}
use Rattle.xp_decide.specs.declared.acceptance.Wanted.{Wanted}
use Rattle.xp_decide.specs.Accepts.{Accepts, Declines}

abbrev pub Examines : Wanted → Station → Result Admission Refusal → Type 0
Examines wanted station (Ok admission) = Accepts wanted station admission
Examines wanted station (Err refusal) = Declines wanted station refusal
