-- What the exchange tells of an answer and of a clear request can be told.
use Rattle.std.proofs.Common.{◌≡◌, ◌≢◌, ℕ, ◌≤◌, true, Err, length, List, [], Option, None, Some, refl, sym, subst, arith}
use Rattle.std.specs.Prelude.{unwrap_or}
use Rattle.std.proofs.Math.Nat.{le_trans}
use Rattle.std.proofs.lemmas.Bool.{and_from, le-leb}
use Rattle.xp_facilities.proofs.Meant.{AsksInRange, asks_in_range, IsTellable}
use Rattle.xp_facilities.specs.Requested.{Means, IsFaulty, Parses}
use Rattle.xp_facilities.specs.Limits.{largest_duration, largest_window}
use Rattle.xp_facilities.specs.Octets.{is_within}
use Rattle.xp_facilities.specs.Indicated.{index_fits, sizes_fit, duration_fits, counts_fit, is_in_range}
use Rattle.xp_facilities.specs.declared.requested.RequestedFacilities.{RequestedFacilities}
use Rattle.xp_facilities.specs.declared.fast_select.FastSelect.{FastSelect}
use Rattle.xp_facilities.specs.declared.fault.FacilityFault.{FacilityFault}
use Rattle.xp_facilities.specs.declared.fault.FacilityFault.TheVariants.{Length, Code, Param, Memory}
use Rattle.xp_facilities.specs.declared.direction_sizes.DirectionSizes.{DirectionSizes}
use Rattle.xp_facilities.specs.declared.redirection.Reason.{Reason}
use Rattle.xp_facilities.specs.declared.charging_information.ChargingInformation.{ChargingInformation}
use Rattle.xp_facilities.specs.declared.indicated.IndicatedFacilities.{IndicatedFacilities}
use Rattle.xp_packets.specs.declared.block.Block.{Block}
use Rattle.xp_packets.specs.declared.modulus.Modulus.TheVariants.{Long}
use Rattle.xp_facilities.specs.declared.fast_select.FastSelect.TheVariants.{Restricted}
use Rattle.xp_answer.specs.Answered.{outputs_of_answer}
use Rattle.xp_answer.specs.Answered as answered
use Rattle.xp_answer.specs.Blocks.{facilities_in}
use Rattle.xp_answer.specs.steps.Examined.{Examines, fault_of}
use Rattle.xp_answer.specs.ForwardedClear.{IsInRange, TakesOver, Carries, told_cleared}
use Rattle.xp_answer.specs.ForwardedClear as carried
use Rattle.xp_answer.specs.steps.Fields.{CanBeTold}
use Rattle.xp_answer.specs.Terms.{AreBetween, AreTerms}
use Rattle.xp_answer.specs.declared.setup.Setup.{Setup}

-- what is in its range, with such facilities between DTEs
told_by : {A : Type 0} (told : IndicatedFacilities A) → is_in_range told ≡ true → IsTellable told.dte → CanBeTold told
told_by told in_range dte = (_, record { carried = dte.carried; dte = dte.is_carried; in_range = in_range; whole = refl })

-- as the facility field bounds them
fits : (least most more : ℕ) (sizes : DirectionSizes) → most ≤ more → AreBetween least most sizes → is_within least more sizes ≡ true
fits least most more sizes grows between =
    and_from _ _
    (and_from _ _ (le-leb _ _ between.called_least) (le-leb _ _ (le_trans between.called_most grows)))
    (and_from _ _ (le-leb _ _ between.calling_least) (le-leb _ _ (le_trans between.calling_most grows)))

settled_fits : (least most : ℕ) (asked : Option DirectionSizes) (indicated : DirectionSizes) → is_within least most indicated ≡ true → sizes_fit least most asked ≡ true
    → is_within least most (unwrap_or asked indicated) ≡ true
unfolding sizes_fit
settled_fits least most None indicated shown asks = shown
settled_fits least most (Some sizes) indicated shown asks = asks

module _ {A : Type 0} where
  connected_in_range : (setup : Setup) (modified : Option Reason) (asked : RequestedFacilities A) → AreTerms Long setup.indicated → AsksInRange asked
      → is_in_range (outputs_of_answer setup modified asked) ≡ true
  unfolding is_in_range index_fits sizes_fit duration_fits counts_fit
  connected_in_range setup modified asked terms asks =
      let packet = settled_fits 4 12 asked.packet setup.indicated.packet (fits 4 10 12 setup.indicated.packet (omega arith) terms.packet) asks.packet in
      let window = settled_fits 1 largest_window asked.window setup.indicated.window (fits 1 largest_window largest_window setup.indicated.window (omega arith) terms.window) asks.window in
      let few = le-leb (length asked.dte) 80 asks.dte.few in
      rw (packet, window, few) refl

  pub connected_told : (setup : Setup) (modified : Option Reason) (asked : RequestedFacilities A) (field : List ℕ) → AreTerms Long setup.indicated → Means field asked
      → CanBeTold (outputs_of_answer setup modified asked)
  connected_told setup modified asked field terms means =
      let asks = asks_in_range field asked means in
      told_by (outputs_of_answer setup modified asked) (connected_in_range setup modified asked terms asks) asks.dte

pub none_tellable : IsTellable []
none_tellable = record { carried = []; is_carried = record { whole = record { each = tt; whole = refl }; unmarked = refl }; few = omega arith }

taken_over_tellable : (A : Type 0) (field dte : List ℕ) → TakesOver A field dte → IsTellable dte
taken_over_tellable A field dte (carried.read asked means is) = subst IsTellable (sym is) (asks_in_range field asked means).dte
taken_over_tellable A field dte (carried.faulty fault faulty is) = subst IsTellable (sym is) none_tellable

pub cleared_in_range : (A : Type 0) (charging : Option ChargingInformation) (dte : List ℕ) → IsInRange charging → IsTellable dte
    → is_in_range (told_cleared {A = A} charging dte) ≡ true
unfolding is_in_range index_fits sizes_fit duration_fits counts_fit
cleared_in_range A None dte range tellable = le-leb (length dte) 80 tellable.few
cleared_in_range A (Some charging) dte range tellable =
    let duration = le-leb charging.duration largest_duration range.0 in
    let sent = le-leb charging.segments.sent 99_999_999 range.1 in
    let received = le-leb charging.segments.received 99_999_999 range.2 in
    let few = le-leb (length dte) 80 tellable.few in rw (duration, sent, received, few) refl

module _ {A : Type 0} where
  carried_tellable : (fast : FastSelect) (block : Option (Block A)) (user dte : List ℕ) → Carries fast block user dte → IsTellable dte
  carried_tellable fast block user dte (carried.nothing _ _ is) = subst IsTellable (sym is) none_tellable
  carried_tellable fast block user dte (carried.both _ _ takes) = taken_over_tellable A _ dte takes

  pub cleared_told : (fast : FastSelect) (block : Option (Block A)) (charging : Option ChargingInformation) (user dte : List ℕ) → IsInRange charging
      → Carries fast block user dte → CanBeTold (told_cleared {A = A} charging dte)
  cleared_told fast block charging user dte range carries =
      let tellable = carried_tellable fast block user dte carries in
      told_by (told_cleared {A = A} charging dte) (cleared_in_range A charging dte range tellable) tellable

-- a field that is refused is faulty, but for want of memory
pub refused_faulty : (A : Type 0) (field : List ℕ) (fault : FacilityFault) → fault ≢ Memory → Parses {A = A} field (Err fault) → IsFaulty field fault
refused_faulty A field Length other faulty = faulty
refused_faulty A field Code other faulty = faulty
refused_faulty A field Param other faulty = faulty
refused_faulty A field Memory other faulty = absurd (other refl)

-- an answer with a faulty field is declined
pub faulty_declines : (A : Type 0) (setup : Setup) (block : Option (Block A)) (fault : FacilityFault) → setup.fast ≢ Restricted
    → Parses {A = A} (facilities_in block) (Err fault) → Examines setup block (Err (fault_of fault))
faulty_declines A setup block Length unrestricted faulty = answered.faulty Length unrestricted faulty refl
faulty_declines A setup block Code unrestricted faulty = answered.faulty Code unrestricted faulty refl
faulty_declines A setup block Param unrestricted faulty = answered.faulty Param unrestricted faulty refl
faulty_declines A setup block Memory unrestricted faulty = tt
