-- The segments of data that is accepted, and their limit.
use Rattle.std.specs.Prelude.{ℕ, ◌+◌, nat_lt, Bool, false, Option, None, Some, length}
use Rattle.xp_charge.specs.Segments.{segments}
use Rattle.xp_packets.specs.declared.packet.Packet.{Packet}
use Rattle.xp_packets.specs.declared.packet.Packet.TheVariants.{DataPacket}
use Rattle.xp_relay.specs.Direction.{Direction}
use Rattle.xp_relay.specs.Judgement.{judgement}
use Rattle.xp_relay.specs.declared.judged.Judged.{Judged}
use Rattle.xp_relay.specs.declared.judged.Judged.TheVariants.{Accept, Discard, Reset}

-- the segments of a data packet of this many octets, if it is accepted
abbrev pub segments_if : Judged → ℕ → Option ℕ
segments_if Accept octets = Some (segments octets)
segments_if Discard octets = None
segments_if (Reset diagnostic) octets = None

-- whether so many more segments take the sum past the limit
abbrev pub goes_past : ℕ → ℕ → Option ℕ → Bool
goes_past limit sum None = false
goes_past limit sum (Some more) = nat_lt limit (sum + more)

module _ {A : Type 0} where
  -- the segments of a packet, if it is data that is accepted, by the two directions that its end sends and receives
  abbrev pub judged : Packet A → Direction A → Direction A → Option ℕ
  judged (DataPacket q d more ps pr octets) sent received = segments_if (judgement ps pr (length octets) sent received) (length octets)
  judged packet sent received = None
