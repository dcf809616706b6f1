-- The rules by which call requests are refused, as docs/PROTOCOL.md numbers them. Several rules share a refusal, so a rule is
-- told by the reason that the definition has.
use Rattle.std.specs.Prelude.{◌≡◌, ℕ, List, Option, None, Some, Result, Ok, Err}
use Rattle.std.specs.declared.alloc.Global.{Global}
use Rattle.xp_causes.specs.declared.refusal.Refusal.{Refusal}
use Rattle.xp_decide.specs.Accepts.{Declines}
use Rattle.xp_decide.specs.Accepts as accepts
use Rattle.xp_decide.specs.Asks.{MayNotAsk, wanted_of}
use Rattle.xp_decide.specs.Asks as asks
use Rattle.xp_decide.specs.Routes.{Place, Refuses, RefusesAt}
use Rattle.xp_decide.specs.Routes as routes
use Rattle.xp_decide.specs.declared.acceptance.Wanted.{Wanted}
use Rattle.xp_explain.specs.declared.explanation.Asked.{Asked}
use Rattle.xp_explain.specs.declared.rule.Rule.{Rule}
use Rattle.xp_explain.specs.declared.rule.Rule.TheVariants as rules
use Rattle.xp_explain.specs.declared.way.End.{End}
use Rattle.xp_explain.specs.declared.way.End.TheVariants as ends
use Rattle.xp_groups.specs.Intends.{Intends}
use Rattle.xp_groups.specs.Intends as intends
use Rattle.xp_groups.specs.declared.intention.Intent.{Intent}
use Rattle.xp_facilities.specs.declared.selection.Selection.{Selection}
use Rattle.xp_hunt.specs.declared.lines.LineState.{LineState}
use Rattle.xp_packets.specs.declared.block.Block.{Block}
use Rattle.xp_subs.specs.Tables.{Tables}
use Rattle.xp_subs.specs.declared.station.Station.{Station}

-- the rule behind a refusal by the caller's closed user groups
abbrev pub rule_of_groups : (station : Station) (selection : Selection) (result : Result Intent Refusal) → Intends station selection result → Rule
rule_of_groups station selection result (intends.no_groups_to_select _ _ _) = rules.Selection
rule_of_groups station selection result (intends.no_outgoing_access _ _ _ _ _) = rules.Selection
rule_of_groups station selection result (intends.closed_not_known _ _ _ _ _) = rules.GroupIndex
rule_of_groups station selection result (intends.with_outside_access_not_known _ _ _ _ _ _) = rules.GroupIndex
rule_of_groups station selection result _ = rules.NoWayOut

-- the rule for the caller that refuses
abbrev pub rule_of_caller : (tables : Tables) (from : ℕ) (block : Block Global) (refusal : Refusal) → MayNotAsk tables from block refusal → Rule
rule_of_caller tables from block refusal (asks.facility_length _ _) = rules.FacilityLength
rule_of_caller tables from block refusal (asks.facility_code _ _) = rules.FacilityCode
rule_of_caller tables from block refusal (asks.facility_parameter _ _) = rules.FacilityParameter
rule_of_caller tables from block refusal (asks.window _ _ _ _) = rules.Window
rule_of_caller tables from block refusal (asks.user_data _ _ _ _ _) = rules.UserData
rule_of_caller tables from block refusal (asks.outgoing_barred _ _ _ _ _ _) = rules.OutgoingBarred
rule_of_caller tables from block refusal (asks.not_intended _ _ _ _ _ intended) = rule_of_groups _ _ _ intended

-- this rule refuses the request for the caller
abbrev pub RefusesCaller : Tables → ℕ → Block Global → Refusal → Rule → Type 0
RefusesCaller tables from block refusal rule =
    (why : MayNotAsk tables from block refusal) × (rule ≡ rule_of_caller tables from block refusal why)

-- the rule for a called station that refuses
abbrev pub rule_of_station : (wanted : Wanted) (station : Station) (refusal : Refusal) → Declines wanted station refusal → Rule
rule_of_station wanted station refusal (accepts.incoming_barred _ _) = rules.IncomingBarred
rule_of_station wanted station refusal (accepts.not_admitted _ _) = rules.Admission
rule_of_station wanted station refusal (accepts.reverse_charging _ _ _ _ _ _) = rules.ReverseCharging
rule_of_station wanted station refusal (accepts.fast_select _ _ _ _ _ _ _) = rules.FastSelect

abbrev pub rule_of_place : (states : ℕ → LineState) (wanted : Wanted) (place : Place) (refusal : Refusal) → Refuses states wanted place refusal → Rule
rule_of_place states wanted place refusal (routes.declined why) = rule_of_station _ _ _ why
rule_of_place states wanted place refusal (routes.all_off _ _ _ _) = rules.OutOfService
rule_of_place states wanted place refusal (routes.none_idle _ _ _ _ _) = rules.NoneIdle

-- the rule that refuses at an address
abbrev pub rule_of_address : (tables : Tables) (states : ℕ → LineState) (wanted : Wanted) (address : List ℕ) (refusal : Refusal) → RefusesAt tables states wanted address refusal → Rule
rule_of_address tables states wanted address refusal (routes.not_known _ _) = rules.Address
rule_of_address tables states wanted address refusal (routes.refused _ _ why) = rule_of_place _ _ _ _ why

-- the rule that refuses where the way of a call ends
abbrev pub TellsRuleAt : Tables → (ℕ → LineState) → Wanted → List ℕ → End → Option Rule → Type 0
TellsRuleAt tables states wanted last (ends.Taken line admission) rule = rule ≡ None
TellsRuleAt tables states wanted last (ends.Refused refusal) rule =
    (why : RefusesAt tables states wanted last refusal) × (rule ≡ Some (rule_of_address tables states wanted last refusal why))
TellsRuleAt tables states wanted last ends.RedirectedTooOften rule = rule ≡ Some rules.Redirections

-- the rule that refuses a call request, if one does
abbrev pub TellsRule : Tables → (ℕ → LineState) → ℕ → Block Global → Result Asked Refusal → Option Rule → Type 0
TellsRule tables states from block (Err refusal) rule =
    (refusing : Rule) × (rule ≡ Some refusing) × RefusesCaller tables from block refusal refusing
TellsRule tables states from block (Ok asked) rule =
    TellsRuleAt tables states (wanted_of asked.request) asked.way.last.now asked.way.end rule
