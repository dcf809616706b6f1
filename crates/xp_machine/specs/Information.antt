-- What the line that pays for a call is told of its duration and its segments as it ends (X.25 clause 6.22).
use Rattle.std.specs.Prelude.{ℕ, min, Bool, ◌&&◌, if◌then◌else◌, Option, None, Some}
use Rattle.xp_charge.specs.Duration.{duration}
use Rattle.xp_charge.specs.FarEnd.{far_end as other_end}
use Rattle.xp_facilities.specs.Limits.{largest_duration}
use Rattle.xp_facilities.specs.declared.charging_information.ChargingInformation.{ChargingInformation}
use Rattle.xp_packets.specs.declared.end.End.{End}
use Rattle.xp_packets.specs.declared.end.End.TheVariants.{Caller, Called}
use Rattle.xp_relay.specs.Contents.{same_end}
use Rattle.xp_machine.specs.declared.agreement.Agreement.{Agreement}
use Rattle.xp_machine.specs.World.{Call}

-- whether the line at an end asked for charging information: the caller asks in its call request, the called line in
-- its answer
abbrev pub asks_for_information : Call → Agreement → End → Bool
asks_for_information call agreement Caller = call.setup.charging
asks_for_information call agreement Called = agreement.charging

-- what the line at an end of a call is told, if each end sent this many segments and the call ends at this moment:
-- nothing unless the call was connected, and the line pays for it and asked; the duration is the one in the record, or
-- the longest that a field indicates
abbrev pub information_as : Call → (End → ℕ) → ℕ → End → Option Agreement → Option ChargingInformation
information_as call counted ended end None = None
information_as call counted ended end (Some agreement) =
    if same_end end call.setup.payer && asks_for_information call agreement end
    then Some (record {
      duration = min largest_duration (duration (Some agreement.connected) ended);
      segments = record { sent = counted (other_end end); received = counted end };
    })
    else None

abbrev pub information_for : Call → (End → ℕ) → ℕ → End → Option ChargingInformation
information_for call counted ended end = information_as call counted ended end call.agreed
