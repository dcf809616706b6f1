-- The segments for which a connected call is charged.
use Rattle.std.specs.Prelude.{ℕ, ◌+◌, nat_le, Bool, false, if◌then◌else◌, Option, None, Some, List, [], ◌∷◌, ◌++◌, option_to_list}
use Rattle.xp_packets.specs.declared.end.End.{End}
use Rattle.xp_relay.specs.Coupled.{Coupled, after, coupled, received_by, sent_by}
use Rattle.xp_relay.specs.Contents.{same_end}
use Rattle.xp_relay.specs.Runs.{Arrival, turn_on}
use Rattle.xp_subs.specs.Tables.{Tables}
use Rattle.xp_step.specs.declared.entry.Entry.{Entry}
use Rattle.xp_machine.specs.declared.agreement.Agreement.{Agreement}
use Rattle.xp_step.specs.RelayedPackets.{RelayedPacket, arrivals, directions, relay_terms}
use Rattle.xp_machine.specs.World.{Call}
use Rattle.xp_machine.specs.Segments.{goes_past, judged}

-- The segments of all packets that are accepted, of packets of this many segments that come one after the other. A
-- packet is accepted if the segments accepted before it, with its own, are within the limit.
abbrev pub sum_within : ℕ → ℕ → List ℕ → ℕ
sum_within limit sum [] = sum
sum_within limit sum (more ∷ rest) = sum_within limit (if nat_le (sum + more) limit then sum + more else sum) rest

module _ {A : Type 0} where
  -- the segments of a packet as it comes, if it is data that is accepted
  abbrev pub judged_at : Coupled A → Arrival A → Option ℕ
  judged_at call arrival = judged arrival.packet (sent_by arrival.here call) (received_by arrival.here call)

  -- the same, if the packet comes from this end
  abbrev pub judged_from : End → Coupled A → Arrival A → Option ℕ
  judged_from end call arrival = if same_end end arrival.here then judged_at call arrival else None

  -- the same of packets that come one after the other, each judged by the directions that those before it led to
  abbrev pub all_judged_from : End → Coupled A → List (Arrival A) → List ℕ
  all_judged_from end call [] = []
  all_judged_from end call (arrival ∷ rest) = option_to_list (judged_from end call arrival) ++ all_judged_from end (after arrival.here (turn_on call arrival)) rest

  -- the segments accepted from an end of a call so far, on what was agreed: none before the call is connected
  abbrev pub segments_from : Tables → List (Entry A) → ℕ → Call → Option Agreement → End → ℕ
  segments_from tables history number call None end = 0
  segments_from tables history number call (Some agreement) end =
      sum_within tables.segment_limit 0 (all_judged_from end (coupled (relay_terms tables call agreement)) (arrivals tables history number))

  -- those of a live call
  abbrev pub segments_of : Tables → List (Entry A) → ℕ → Call → End → ℕ
  segments_of tables history number call end = segments_from tables history number call call.agreed end

  -- those of the call of a number, if it is live
  abbrev pub segments_if_live : Tables → List (Entry A) → ℕ → Option Call → End → ℕ
  segments_if_live tables history number None end = 0
  segments_if_live tables history number (Some call) end = segments_of tables history number call end

  -- a packet that would take its direction past the segment limit
  abbrev pub is_past_limit : Tables → List (Entry A) → Option (RelayedPacket A) → Bool
  is_past_limit tables before None = false
  is_past_limit tables before (Some carried) =
      goes_past tables.segment_limit (segments_from tables before carried.number carried.call (Some carried.agreement) carried.arrival.here)
      (judged_at (directions tables before carried.number carried.call carried.agreement) carried.arrival)
