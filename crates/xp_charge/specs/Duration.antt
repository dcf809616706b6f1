-- How long a call was connected.
use Rattle.std.specs.Prelude.{ℕ, ◌-◌, Option, None, Some}
use Rattle.xp_charge.specs.declared.record.Record.{Record}

-- The seconds between two moments: that at which the call was connected, and that at which it ended. There are none if
-- it was never connected, or if the clock went back.
abbrev pub duration : Option ℕ → ℕ → ℕ
duration None ended = 0
duration (Some connected) ended = ended - connected

-- the seconds that a call was connected
abbrev pub seconds_of : Record → ℕ
seconds_of ended = duration ended.connected ended.ended
