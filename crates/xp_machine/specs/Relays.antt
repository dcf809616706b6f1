-- The relays and meters of the connected calls, each in the place of its caller's line.
use Rattle.std.specs.Prelude.{◌≡◌, ℕ, true, false, Option, None, Some, Result, Ok, Err, List, slice_index_or, slice_set}
use Rattle.xp_charge.specs.Counted.{Counted}
use Rattle.xp_charge.specs.declared.meter.OverLimit.{OverLimit}
use Rattle.xp_charge.specs.Meter.{counted_from, with_more}
use Rattle.xp_packets.specs.declared.end.End.{End}
use Rattle.xp_machine.specs.declared.relays.RelayUpdate.{RelayUpdate}
use Rattle.xp_machine.specs.declared.relays.MeteredRelay.{MeteredRelay}
use Rattle.xp_machine.specs.Segments.{goes_past}

-- what is counted with a packet from this end, which has this many segments if it is data that is accepted
abbrev pub counting : End → Option ℕ → Counted → Counted
counting end None counted = counted
counting end (Some more) counted = with_more end more counted

-- the count with the packet, or that the packet would take it past the limit
abbrev pub Counts : Counted → End → Option ℕ → Result Counted OverLimit → Type 0
Counts counted end more (Ok new) = (goes_past counted.limit (counted_from end counted) more ≡ false) × (new ≡ counting end more counted)
Counts counted end more (Err over) = goes_past counted.limit (counted_from end counted) more ≡ true

module _ {A : Type 0} where
  -- the relay and the meter in the place of a line
  abbrev pub relay_under : List (Option (MeteredRelay A)) → ℕ → Option (MeteredRelay A)
  relay_under relays line = slice_index_or relays line None

  -- the relays with this update of one call, if there is one
  abbrev pub relays_with : Option (RelayUpdate A) → List (Option (MeteredRelay A)) → List (Option (MeteredRelay A))
  relays_with None relays = relays
  relays_with (Some relay_update) relays = slice_set relays relay_update.caller (Some relay_update.metered)
