-- For private steps. How the state of the exchange is encoded.
use Rattle.std.specs.Coded.{Coded, coded_ℕ}
use Rattle.std.specs.FinMap as map
use Rattle.std.specs.Ordering.{nat_cmp}
use Rattle.xp_machine.specs.World.{Call}

-- the code of a map of the live calls, by the code of a call
abbrev pub calls_code : Coded Call → Coded (map.FinMap nat_cmp Call)
calls_code call_code = map.code coded_ℕ call_code
