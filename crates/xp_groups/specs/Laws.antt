-- Laws of the group rules.
use Rattle.std.specs.Prelude.{◌≡◌, Result, Ok}
use Rattle.xp_facilities.specs.declared.selection.Selection.{Selection}
use Rattle.xp_subs.specs.declared.station.Station.{Station}
use Rattle.xp_groups.specs.declared.intention.Intent.{Intent}
use Rattle.xp_groups.specs.declared.admission.Admission.{Admission}
use Rattle.xp_causes.specs.declared.refusal.Refusal.{Refusal}
use Rattle.xp_groups.specs.Intends.{Intends}
use Rattle.xp_groups.specs.Admits.{Admits}
use Rattle.xp_groups.specs.MayJoin.{MayJoin}

-- a station and a selection have at most one result
abbrev pub IntentIsDetermined : Type 0
IntentIsDetermined = (station : Station) (selection : Selection) (one other : Result Intent Refusal)
    → Intends station selection one → Intends station selection other → one ≡ other

-- an intent and a station have at most one result
abbrev pub AdmissionIsDetermined : Type 0
AdmissionIsDetermined = (intent : Intent) (station : Station) (one other : Result Admission Refusal)
    → Admits intent station one → Admits intent station other → one ≡ other

-- a station and a selection have a result
abbrev pub EverySelectionIsAnswered : Type 0
EverySelectionIsAnswered = (station : Station) (selection : Selection) → (result : Result Intent Refusal) × Intends station selection result

-- an intent and a station have a result
abbrev pub EveryIntentIsAnswered : Type 0
EveryIntentIsAnswered = (intent : Intent) (station : Station) → (result : Result Admission Refusal) × Admits intent station result

-- a call that its caller may make and the called station admits joins two stations that may be joined
abbrev pub JoinedMayJoin : Type 0
JoinedMayJoin = (caller called : Station) (selection : Selection) (intent : Intent) (admission : Admission)
    → Intends caller selection (Ok intent) → Admits intent called (Ok admission) → MayJoin caller called
