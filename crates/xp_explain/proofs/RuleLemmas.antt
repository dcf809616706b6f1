-- The rules behind refusals.
use Rattle.std.proofs.Common.{◌≡◌, ℕ, Bool, true, false, List, Some, Result, Err, refl, ◌∙◌, ap}
use Rattle.std.specs.declared.alloc.Global.{Global}
use Rattle.xp_causes.specs.declared.refusal.Refusal.{Refusal}
use Rattle.xp_causes.specs.declared.refusal.TheConstants.Refusal.{ACCESS_BARRED, FACILITY_NOT_ALLOWED, GROUP_NOT_KNOWN}
use Rattle.xp_decide.specs.Accepts.{Declines}
use Rattle.xp_decide.specs.Accepts as accepts
use Rattle.xp_decide.specs.Asks.{MayNotAsk, station_of_line}
use Rattle.xp_decide.specs.Asks as asks
use Rattle.xp_decide.specs.Routes.{Place, Refuses, RefusesAt}
use Rattle.xp_decide.specs.Routes as routes
use Rattle.xp_decide.specs.declared.acceptance.Wanted.{Wanted}
use Rattle.xp_explain.specs.Rules.{rule_of_groups, rule_of_caller, rule_of_station, rule_of_place, rule_of_address, TellsRuleAt}
use Rattle.xp_explain.specs.Way.{EndsAt}
use Rattle.xp_explain.specs.declared.way.End.{End}
use Rattle.xp_explain.specs.declared.way.End.TheVariants as ends
use Rattle.xp_explain.specs.steps.Rules.{rule_for_address, rule_for_caller, rule_at_end}
use Rattle.xp_facilities.specs.Requested.{HasOneReading, IsFaulty, Means}
use Rattle.xp_facilities.specs.declared.fault.FacilityFault.{FacilityFault}
use Rattle.xp_facilities.specs.declared.fault.FacilityFault.TheVariants.{Code, Param}
use Rattle.xp_facilities.specs.declared.requested.RequestedFacilities.{RequestedFacilities}
use Rattle.xp_facilities.specs.declared.selection.Selection.{Selection}
use Rattle.xp_groups.specs.Admits.{Admits}
use Rattle.xp_groups.specs.Admits as admits
use Rattle.xp_groups.specs.Intends.{Intends}
use Rattle.xp_groups.specs.Intends as intends
use Rattle.xp_groups.specs.declared.admission.Admission.{Admission}
use Rattle.xp_groups.specs.declared.intention.Intent.{Intent}
use Rattle.xp_hunt.specs.declared.lines.LineState.{LineState}
use Rattle.xp_packets.specs.declared.block.Block.{Block}
use Rattle.xp_subs.specs.Tables.{Tables}
use Rattle.xp_subs.specs.declared.station.Station.{Station}

-- a station that does not admit a call refuses it as barred
barred : (intent : Intent) (station : Station) (result : Result Admission Refusal) (refusal : Refusal) → Admits intent station result → result ≡ Err refusal → refusal ≡ ACCESS_BARRED
barred intent station result refusal (admits.no_groups _ _ e) same = cc
barred intent station result refusal (admits.no_groups_to_share _ _ e) same = cc
barred intent station result refusal (admits.within_group _ _ _ _ e) same = cc
barred intent station result refusal (admits.within_group_open _ _ _ _ e) same = cc
barred intent station result refusal (admits.incoming_access _ _ _ e) same = cc
barred intent station result refusal (admits.no_way_in _ _ _ e) same = cc

told_by_station : (wanted : Wanted) (station : Station) (refusal : Refusal) (why : Declines wanted station refusal)
    → rule_for_address refusal ≡ rule_of_station wanted station refusal why
told_by_station wanted station refusal (accepts.incoming_barred _ e) = ap rule_for_address e
told_by_station wanted station refusal (accepts.not_admitted _ admitted) =
    ap rule_for_address (barred wanted.intent station (Err refusal) refusal admitted refl)
told_by_station wanted station refusal (accepts.reverse_charging _ _ _ _ _ e) = ap rule_for_address e
told_by_station wanted station refusal (accepts.fast_select _ _ _ _ _ _ e) = ap rule_for_address e

told_at_place : (states : ℕ → LineState) (wanted : Wanted) (place : Place) (refusal : Refusal) (why : Refuses states wanted place refusal)
    → rule_for_address refusal ≡ rule_of_place states wanted place refusal why
told_at_place states wanted place refusal (routes.declined why) = told_by_station wanted place.station refusal why
told_at_place states wanted place refusal (routes.all_off _ _ _ e) = ap rule_for_address e
told_at_place states wanted place refusal (routes.none_idle _ _ _ _ e) = ap rule_for_address e

told_at_address : (tables : Tables) (states : ℕ → LineState) (wanted : Wanted) (address : List ℕ) (refusal : Refusal) (why : RefusesAt tables states wanted address refusal)
    → rule_for_address refusal ≡ rule_of_address tables states wanted address refusal why
told_at_address tables states wanted address refusal (routes.not_known _ e) = ap rule_for_address e
told_at_address tables states wanted address refusal (routes.refused place _ why) = told_at_place states wanted place refusal why

-- the rule where a way ends
pub told_at : (tables : Tables) (states : ℕ → LineState) (wanted : Wanted) (hops : ℕ) (last : List ℕ) (end : End)
    → EndsAt tables states wanted hops last end → TellsRuleAt tables states wanted last end (rule_at_end end)
told_at tables states wanted hops last (ends.Taken line admission) at = refl
told_at tables states wanted hops last (ends.Refused refusal) (_, _, why) =
    (why, ap Some (told_at_address tables states wanted last refusal why))
told_at tables states wanted hops last ends.RedirectedTooOften at = refl

-- the rule of a caller's groups, where the facilities were read and the caller makes calls
told_by_groups : (station : Station) (selection : Selection) (result : Result Intent Refusal) (refusal : Refusal) (outgoing_barred : Bool)
    → (intended : Intends station selection result) → result ≡ Err refusal → outgoing_barred ≡ false
    → rule_for_caller refusal true outgoing_barred ≡ rule_of_groups station selection result intended
told_by_groups station selection result refusal outgoing_barred (intends.no_groups _ _ e) same clear = cc
told_by_groups station selection result refusal outgoing_barred (intends.no_groups_to_select _ _ e) same clear =
    let is : refusal ≡ FACILITY_NOT_ALLOWED = cc in ap (λ r. rule_for_caller r true outgoing_barred) is
told_by_groups station selection result refusal outgoing_barred (intends.closed _ _ _ _ _ _ e) same clear = cc
told_by_groups station selection result refusal outgoing_barred (intends.closed_barred _ _ _ _ _ _ e) same clear =
    let is : refusal ≡ ACCESS_BARRED = cc in ap (λ r. rule_for_caller r true outgoing_barred) is ∙ ap (rule_for_caller ACCESS_BARRED true) clear
told_by_groups station selection result refusal outgoing_barred (intends.closed_not_known _ _ _ _ e) same clear =
    let is : refusal ≡ GROUP_NOT_KNOWN = cc in ap (λ r. rule_for_caller r true outgoing_barred) is
told_by_groups station selection result refusal outgoing_barred (intends.no_outgoing_access _ _ _ _ e) same clear =
    let is : refusal ≡ FACILITY_NOT_ALLOWED = cc in ap (λ r. rule_for_caller r true outgoing_barred) is
told_by_groups station selection result refusal outgoing_barred (intends.with_outside_access_not_known _ _ _ _ _ e) same clear =
    let is : refusal ≡ GROUP_NOT_KNOWN = cc in ap (λ r. rule_for_caller r true outgoing_barred) is
told_by_groups station selection result refusal outgoing_barred (intends.with_outside_access_barred _ _ _ _ _ _ _ e) same clear = cc
told_by_groups station selection result refusal outgoing_barred (intends.with_outside_access _ _ _ _ _ _ _ e) same clear = cc
told_by_groups station selection result refusal outgoing_barred (intends.preferential _ _ _ _ _ e) same clear = cc
told_by_groups station selection result refusal outgoing_barred (intends.preferential_open _ _ _ _ _ e) same clear = cc
told_by_groups station selection result refusal outgoing_barred (intends.outgoing_access _ _ _ _ e) same clear = cc
told_by_groups station selection result refusal outgoing_barred (intends.no_way_out _ _ _ _ e) same clear =
    let is : refusal ≡ ACCESS_BARRED = cc in ap (λ r. rule_for_caller r true outgoing_barred) is ∙ ap (rule_for_caller ACCESS_BARRED true) clear

-- whether a facility field was read
pub record Reads (field : List ℕ) (is_read : Bool) : Type 0 where
  pub one : HasOneReading Global field
  pub meaning : is_read ≡ true → (asked : RequestedFacilities Global) × Means field asked
  pub fault : is_read ≡ false → (fault : FacilityFault) × IsFaulty field fault

-- the rule for the caller
pub told_to_caller : (tables : Tables) (from : ℕ) (block : Block Global) (refusal : Refusal) (is_read : Bool) (why : MayNotAsk tables from block refusal)
    → Reads block.facilities is_read
    → rule_for_caller refusal is_read (station_of_line tables from).facilities.outgoing_barred ≡ rule_of_caller tables from block refusal why
told_to_caller tables from block refusal is_read (asks.facility_length _ e) reads =
    ap (λ r. rule_for_caller r is_read (station_of_line tables from).facilities.outgoing_barred) e
told_to_caller tables from block refusal true (asks.facility_code faulty e) reads =
    let m = reads.meaning refl in absurd (reads.one.never_both m.0 Code m.1 faulty)
told_to_caller tables from block refusal false (asks.facility_code faulty e) reads =
    ap (λ r. rule_for_caller r false (station_of_line tables from).facilities.outgoing_barred) e
told_to_caller tables from block refusal true (asks.facility_parameter faulty e) reads =
    let m = reads.meaning refl in absurd (reads.one.never_both m.0 Param m.1 faulty)
told_to_caller tables from block refusal false (asks.facility_parameter faulty e) reads =
    ap (λ r. rule_for_caller r false (station_of_line tables from).facilities.outgoing_barred) e
told_to_caller tables from block refusal true (asks.window asked means _ e) reads =
    ap (λ r. rule_for_caller r true (station_of_line tables from).facilities.outgoing_barred) e
told_to_caller tables from block refusal false (asks.window asked means _ e) reads =
    let f = reads.fault refl in absurd (reads.one.never_both asked f.0 means f.1)
told_to_caller tables from block refusal is_read (asks.user_data _ _ _ _ e) reads =
    ap (λ r. rule_for_caller r is_read (station_of_line tables from).facilities.outgoing_barred) e
told_to_caller tables from block refusal is_read (asks.outgoing_barred _ _ _ _ barred e) reads =
    ap (λ r. rule_for_caller r is_read (station_of_line tables from).facilities.outgoing_barred) e
    ∙ ap (rule_for_caller ACCESS_BARRED is_read) barred
told_to_caller tables from block refusal true (asks.not_intended asked _ _ _ clear intended) reads =
    told_by_groups (station_of_line tables from) asked.selection (Err refusal) refusal (station_of_line tables from).facilities.outgoing_barred intended refl clear
told_to_caller tables from block refusal false (asks.not_intended asked means _ _ _ intended) reads =
    let f = reads.fault refl in absurd (reads.one.never_both asked f.0 means f.1)
