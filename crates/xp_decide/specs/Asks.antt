-- What a call request asks for, and whether the caller's line and station may make it (X.25 clauses 5.2.2, 6.6, 6.12 and
-- 6.14).
use Rattle.std.specs.Prelude.{◌≡◌, ℕ, ◌<◌, ◌≤◌, length, nat_le, ◌&&◌, Bool, true, false, Option, None, Some, Result, Ok, Err, ◌⊎◌}
use Rattle.xp_facilities.specs.Requested.{Means, IsFaulty}
use Rattle.xp_facilities.specs.declared.direction_sizes.DirectionSizes.{DirectionSizes}
use Rattle.xp_facilities.specs.declared.requested.RequestedFacilities.{RequestedFacilities}
use Rattle.xp_facilities.specs.declared.fast_select.FastSelect.{FastSelect}
use Rattle.xp_facilities.specs.declared.fast_select.FastSelect.TheVariants.{No, Unrestricted, Restricted}
use Rattle.xp_facilities.specs.declared.fault.FacilityFault.TheVariants.{Length, Code, Param}
use Rattle.xp_groups.specs.Intends.{Intends}
use Rattle.xp_causes.specs.declared.refusal.Refusal.{Refusal}
use Rattle.xp_causes.specs.declared.refusal.TheConstants.Refusal.{FACILITY_LENGTH, FACILITY_NOT_ALLOWED, FACILITY_PARAMETER, USER_DATA_TOO_LONG, ACCESS_BARRED}
use Rattle.xp_packets.specs.declared.block.Block.{Block}
use Rattle.xp_packets.specs.declared.modulus.Modulus.{Modulus}
use Rattle.xp_subs.specs.Tables.{Tables, modulus_of, station_at, station_of}
use Rattle.xp_subs.specs.declared.station.Station.{Station}
use Rattle.xp_decide.specs.Indicated.{largest_window_on}
use Rattle.xp_decide.specs.declared.acceptance.Wanted.{Wanted}
use Rattle.xp_decide.specs.declared.fault.CallFault.{CallFault}
use Rattle.xp_decide.specs.declared.fault.CallFault.TheVariants as faults
use Rattle.xp_decide.specs.declared.request.Request.{Request}

-- the station of a line
abbrev pub station_of_line : Tables → ℕ → Station
station_of_line tables from = station_at tables (station_of tables from)

-- fast select of either kind
abbrev pub is_fast : FastSelect → Bool
is_fast No = false
is_fast Unrestricted = true
is_fast Restricted = true

-- the windows are at most the largest of a line with this modulus
abbrev pub windows_fit : Modulus → Option DirectionSizes → Bool
windows_fit modulus None = true
windows_fit modulus (Some windows) =
    nat_le windows.from_called (largest_window_on modulus) && nat_le windows.from_calling (largest_window_on modulus)

module _ {A : Type 0} where
  -- what the call requests of each station that it reaches
  abbrev pub wanted_of : Request A → Wanted
  wanted_of request = record { intent = request.intent; reverse = request.asked.reverse; fast = is_fast request.asked.fast }

  -- at most 16 octets of user data, or fast select
  abbrev pub HasRoom : Block A → RequestedFacilities A → Type 0
  HasRoom block asked = (length block.user ≤ 16) ⊎ (is_fast asked.fast ≡ true)

  abbrev pub HasNoRoom : Block A → RequestedFacilities A → Type 0
  HasNoRoom block asked = (16 < length block.user) × (is_fast asked.fast ≡ false)

  pub record Asks (tables : Tables) (from : ℕ) (block : Block A) (request : Request A) : Type 0 where
    pub means : Means block.facilities request.asked
    pub window : windows_fit (modulus_of tables from) request.asked.window ≡ true
    pub room : HasRoom block request.asked
    pub outgoing : (station_of_line tables from).facilities.outgoing_barred ≡ false
    pub intends : Intends (station_of_line tables from) request.asked.selection (Ok request.intent)

  -- the first reason, in the order of the checks, why the caller may not make the call
  pub data MayNotAsk (tables : Tables) (from : ℕ) (block : Block A) (refusal : Refusal) : Type 0 where
    facility_length : IsFaulty block.facilities Length
        → refusal ≡ FACILITY_LENGTH → MayNotAsk tables from block refusal
    facility_code : IsFaulty block.facilities Code
        → refusal ≡ FACILITY_NOT_ALLOWED → MayNotAsk tables from block refusal
    facility_parameter : IsFaulty block.facilities Param
        → refusal ≡ FACILITY_PARAMETER → MayNotAsk tables from block refusal
    window : (asked : RequestedFacilities A) → Means block.facilities asked
        → windows_fit (modulus_of tables from) asked.window ≡ false
        → refusal ≡ FACILITY_PARAMETER → MayNotAsk tables from block refusal
    user_data : (asked : RequestedFacilities A) → Means block.facilities asked
        → windows_fit (modulus_of tables from) asked.window ≡ true → HasNoRoom block asked
        → refusal ≡ USER_DATA_TOO_LONG → MayNotAsk tables from block refusal
    outgoing_barred : (asked : RequestedFacilities A) → Means block.facilities asked
        → windows_fit (modulus_of tables from) asked.window ≡ true → HasRoom block asked
        → (station_of_line tables from).facilities.outgoing_barred ≡ true
        → refusal ≡ ACCESS_BARRED → MayNotAsk tables from block refusal
    not_intended : (asked : RequestedFacilities A) → Means block.facilities asked
        → windows_fit (modulus_of tables from) asked.window ≡ true → HasRoom block asked
        → (station_of_line tables from).facilities.outgoing_barred ≡ false
        → Intends (station_of_line tables from) asked.selection (Err refusal) → MayNotAsk tables from block refusal

  -- the result of reading a call request: the request, or its first fault; memory may be wanting
  abbrev pub Opens : Tables → ℕ → Block A → Result (Request A) CallFault → Type 0
  Opens tables from block (Ok request) = Asks tables from block request
  Opens tables from block (Err (faults.Refused refusal)) = MayNotAsk tables from block refusal
  Opens tables from block (Err faults.Memory) = Unit {0}
