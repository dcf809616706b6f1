-- The clear indication that the far end of a call receives for a clear request (X.25 clauses 4.1.7, 5.2.4 and 6.16).
use Rattle.std.specs.Prelude.{◌≡◌, ℕ, ◌≤◌, true, false, List, [], Option, None, Some, option_map}
use Rattle.xp_causes.specs.Indicated.{indicated_cause, indicated_diagnostic}
use Rattle.xp_decide.specs.Asks.{is_fast}
use Rattle.xp_facilities.specs.Limits.{largest_duration}
use Rattle.xp_facilities.specs.Requested.{Means, IsFaulty}
use Rattle.xp_facilities.specs.Indicated.{Indicates}
use Rattle.xp_facilities.specs.declared.requested.RequestedFacilities.{RequestedFacilities}
use Rattle.xp_facilities.specs.declared.fast_select.FastSelect.{FastSelect}
use Rattle.xp_facilities.specs.declared.fast_select.FastSelect.TheVariants.{No}
use Rattle.xp_facilities.specs.declared.fault.FacilityFault.{FacilityFault}
use Rattle.xp_facilities.specs.declared.charging_information.ChargingInformation.{ChargingInformation}
use Rattle.xp_facilities.specs.declared.selection.Selection.TheVariants.{Nothing}
use Rattle.xp_facilities.specs.declared.indicated.IndicatedFacilities.{IndicatedFacilities}
use Rattle.xp_packets.specs.declared.block.Block.{Block}
use Rattle.xp_packets.specs.declared.packet.Packet.{Packet}
use Rattle.xp_packets.specs.declared.packet.Packet.TheVariants.{Clear}
use Rattle.xp_answer.specs.Blocks.{facilities_in, user_in}

-- the duration is at most 99 days, 23:59:59, and both segment counts have at most eight decimal digits
abbrev pub IsInRange : Option ChargingInformation → Type 0
IsInRange None = Unit {0}
IsInRange (Some charging) =
    (charging.duration ≤ largest_duration) × (charging.segments.sent ≤ 99_999_999) × (charging.segments.received ≤ 99_999_999)

-- The facilities between DTEs that are forwarded from a field. There are none if the field is faulty.
pub data TakesOver (A : Type 0) (field dte : List ℕ) : Type 0 where
  read : (asked : RequestedFacilities A) → Means field asked → dte ≡ asked.dte → TakesOver A field dte
  faulty : (fault : FacilityFault) → IsFaulty field fault → dte ≡ [] → TakesOver A field dte

module _ {A : Type 0} where
  -- The user data and the facilities between DTEs that are forwarded: those of the clear request with fast select of
  -- either kind, otherwise none.
  pub data Carries (fast : FastSelect) (block : Option (Block A)) (user dte : List ℕ) : Type 0 where
    nothing : is_fast fast ≡ false → user ≡ [] → dte ≡ [] → Carries fast block user dte
    both : is_fast fast ≡ true → user ≡ user_in block → TakesOver A (facilities_in block) dte → Carries fast block user dte

  -- the facilities of the clear indication
  abbrev pub told_cleared : Option ChargingInformation → List ℕ → IndicatedFacilities A
  told_cleared charging dte = record {
    selection = Nothing;
    fast = No;
    reverse = false;
    throughput = None;
    modified = None;
    packet = None;
    window = None;
    redirected = None;
    duration = option_map (λ (told : ChargingInformation). told.duration) charging;
    segments = option_map (λ (told : ChargingInformation). told.segments) charging;
    dte = dte;
  }

  -- a block without addresses, or none if there is nothing to carry
  abbrev pub block_with : List ℕ → List ℕ → Option (Block A)
  block_with [] [] = None
  block_with field user = Some (record { called = []; calling = []; facilities = field; user = user })

  -- the clear indication for the far end
  pub record ForwardedClear (fast : FastSelect) (cause : ℕ) (diagnostic : Option ℕ) (block : Option (Block A)) (charging : Option ChargingInformation) (packet : Packet A) : Type 0 where
    pub user : List ℕ
    pub dte : List ℕ
    pub carries : Carries fast block user dte
    pub field : List ℕ
    pub tells : Indicates (told_cleared charging dte) field
    pub whole : packet ≡ Clear (indicated_cause cause) (Some (indicated_diagnostic diagnostic)) (block_with field user)
