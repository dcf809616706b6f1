-- Charging information: the duration and the segments of a call, sent at its end to the line that pays (X.25 clauses
-- 6.22, 5.2.4 and 5.2.5).
use Rattle.std.specs.Prelude.{ℕ, List, [], ◌∷◌, ◌++◌, Option, None, Some}
use Rattle.xp_facilities.specs.Indicated.{duration_octets, eight_digits}
use Rattle.xp_facilities.specs.declared.charging_information.ChargingInformation.{ChargingInformation}
use Rattle.xp_packets.specs.declared.packet.Packet.{Packet}
use Rattle.xp_packets.specs.declared.packet.Packet.TheVariants.{Clear, ClearConfirm}
use Rattle.xp_answer.specs.ForwardedClear.{block_with}

-- the facility field that indicates the duration and the segments and nothing else
abbrev pub information_field : Option ChargingInformation → List ℕ
information_field None = []
information_field (Some charging) =
    (0xc1 ∷ 4 ∷ duration_octets charging.duration) ++ 0xc2 ∷ 8 ∷ eight_digits charging.segments.sent ++ eight_digits charging.segments.received

module _ {A : Type 0} where
  -- a clear indication from the exchange itself
  abbrev pub cleared_with : ℕ → ℕ → Option ChargingInformation → Packet A
  cleared_with cause diagnostic charging = Clear cause (Some diagnostic) (block_with (information_field charging) [])

  -- a clear confirmation
  abbrev pub confirmed_with : Option ChargingInformation → Packet A
  confirmed_with charging = ClearConfirm (block_with (information_field charging) [])
