-- The field of charging information tells it, and is short.
use Rattle.std.proofs.Common.{ℕ, ◌≤◌, List, [], ◌∷◌, length, Option, None, Some, refl, arith}
use Rattle.std.proofs.lemmas.Bool.{le-ltb}
use Rattle.xp_facilities.specs.Indicated.{Indicates, options, throughput, two_digit_index, closed_index, modified, open_index, pair, four_digit_index, duration, counts, redirection, optional_item, marked, duration_octets, eight_digits}
use Rattle.xp_facilities.specs.declared.charging_information.ChargingInformation.{ChargingInformation}
use Rattle.xp_packets.specs.declared.packet.Packet.TheVariants.{ClearConfirm}
use Rattle.xp_answer.specs.ForwardedClear.{IsInRange, block_with, told_cleared}
use Rattle.xp_answer.specs.Fields.{CanBeSent}
use Rattle.xp_answer.specs.Information.{cleared_with, confirmed_with, information_field}
use Rattle.xp_answer.specs.Laws.{InformationIsTold}
use Rattle.xp_answer.proofs.Sent.{none_holds, few_facilities, with_block_sent}
use Rattle.xp_answer.proofs.Tellable.{cleared_in_range, none_tellable}

pub information_tells : (A : Type 0) (charging : Option ChargingInformation) → IsInRange charging → Indicates (told_cleared {A = A} charging []) (information_field charging)
unfolding options throughput two_digit_index closed_index modified open_index pair four_digit_index duration counts redirection optional_item marked duration_octets eight_digits
information_tells A None are = record {
  carried = [];
  dte = record { whole = record { each = tt; whole = refl }; unmarked = refl };
  in_range = cleared_in_range A None [] are none_tellable;
  whole = refl;
}
information_tells A (Some charging) are = record {
  carried = [];
  dte = record { whole = record { each = tt; whole = refl }; unmarked = refl };
  in_range = cleared_in_range A (Some charging) [] are none_tellable;
  whole = refl;
}

information_few : (charging : Option ChargingInformation) → length (information_field charging) ≤ 107
unfolding duration_octets eight_digits
information_few None = omega arith
information_few (Some charging) = omega arith

pub cleared_information : (A : Type 0) (cause diagnostic : ℕ) (charging : Option ChargingInformation) → CanBeSent {A = A} (cleared_with cause diagnostic charging)
cleared_information A cause diagnostic charging = with_block_sent A cause diagnostic (information_field charging) [] (information_few charging) (omega arith)

confirmation_sent : (A : Type 0) (field : List ℕ) → length field ≤ 107 → CanBeSent {A = A} (ClearConfirm (block_with field []))
confirmation_sent A [] few = record { fit = λ modulus identifier small. none_holds _ _ _ _ refl (le-ltb 4095 identifier small) refl refl; most = tt }
confirmation_sent A (octet ∷ field) few = record {
  fit = λ modulus identifier small. none_holds _ _ _ _ refl (le-ltb 4095 identifier small) (few_facilities (octet ∷ field) few) refl;
  most = few;
}

pub confirmed_information : (A : Type 0) (charging : Option ChargingInformation) → CanBeSent {A = A} (confirmed_with charging)
confirmed_information A charging = confirmation_sent A (information_field charging) (information_few charging)

pub information_told : (A : Type 0) → InformationIsTold A
information_told A = record { tells = information_tells A; cleared = cleared_information A; confirmed = confirmed_information A }
