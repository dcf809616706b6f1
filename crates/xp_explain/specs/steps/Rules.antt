-- The rules as the code tells them: by refusals, and by what several rules of one refusal differ in.
use Rattle.std.specs.Prelude.{Bool, ◌&&◌, nat_eq, if◌then◌else◌, Option, None, Some}
use Rattle.xp_causes.specs.declared.refusal.Refusal.{Refusal}
use Rattle.xp_causes.specs.declared.refusal.TheConstants.Refusal.{FACILITY_LENGTH, FACILITY_NOT_ALLOWED, FACILITY_PARAMETER, USER_DATA_TOO_LONG, ACCESS_BARRED, GROUP_NOT_KNOWN, ADDRESS_NOT_KNOWN, INCOMING_CALLS_BARRED, REVERSE_CHARGING_NOT_ACCEPTED, FAST_SELECT_NOT_ACCEPTED, OUT_OF_ORDER}
use Rattle.xp_explain.specs.declared.rule.Rule.{Rule}
use Rattle.xp_explain.specs.declared.rule.Rule.TheVariants as rules
use Rattle.xp_explain.specs.declared.way.End.{End}
use Rattle.xp_explain.specs.declared.way.End.TheVariants as ends

abbrev pub is_same : Refusal → Refusal → Bool
is_same one other = nat_eq one.cause other.cause && nat_eq one.diagnostic other.diagnostic

-- the rule for the caller
abbrev pub rule_for_caller : Refusal → Bool → Bool → Rule
rule_for_caller refusal is_read outgoing_barred =
    if is_same refusal FACILITY_LENGTH then rules.FacilityLength
    else (if is_same refusal FACILITY_NOT_ALLOWED then (if is_read then rules.Selection else rules.FacilityCode)
    else (if is_same refusal FACILITY_PARAMETER then (if is_read then rules.Window else rules.FacilityParameter)
    else (if is_same refusal USER_DATA_TOO_LONG then rules.UserData
    else (if is_same refusal GROUP_NOT_KNOWN then rules.GroupIndex
    else (if outgoing_barred then rules.OutgoingBarred else rules.NoWayOut)))))

-- the rule at an address
abbrev pub rule_for_address : Refusal → Rule
rule_for_address refusal =
    if is_same refusal ADDRESS_NOT_KNOWN then rules.Address
    else (if is_same refusal INCOMING_CALLS_BARRED then rules.IncomingBarred
    else (if is_same refusal ACCESS_BARRED then rules.Admission
    else (if is_same refusal REVERSE_CHARGING_NOT_ACCEPTED then rules.ReverseCharging
    else (if is_same refusal FAST_SELECT_NOT_ACCEPTED then rules.FastSelect
    else (if is_same refusal OUT_OF_ORDER then rules.OutOfService
    else rules.NoneIdle)))))

-- the rule that refuses where a way ends
abbrev pub rule_at_end : End → Option Rule
rule_at_end (ends.Taken line admission) = None
rule_at_end (ends.Refused refusal) = Some (rule_for_address refusal)
rule_at_end ends.RedirectedTooOften = Some rules.Redirections
