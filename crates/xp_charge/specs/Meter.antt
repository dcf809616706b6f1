-- The meter of a call: for each direction, the sum of the segments of the accepted packets.
use Rattle.std.specs.Prelude.{ℕ, ◌+◌}
use Rattle.xp_packets.specs.declared.end.End.{End}
use Rattle.xp_packets.specs.declared.end.End.TheVariants.{Caller, Called}
use Rattle.xp_charge.specs.Counted.{Counted}

-- the meter of a new call
abbrev pub opening : ℕ → Counted
opening limit = record { limit = limit; from_caller = 0; from_called = 0 }

-- the segments received from an end
abbrev pub counted_from : End → Counted → ℕ
counted_from Caller counted = counted.from_caller
counted_from Called counted = counted.from_called

-- `more` segments received from an end
abbrev pub with_more : End → ℕ → Counted → Counted
with_more Caller more counted = record counted { from_caller = counted.from_caller + more }
with_more Called more counted = record counted { from_called = counted.from_called + more }
