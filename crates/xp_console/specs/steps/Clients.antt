-- A client's connection after a look at it.
use Rattle.std.specs.Prelude.{◌<◌, ℕ, ⊤}
use Rattle.xp_console.specs.declared.client.Look.{Look}
use Rattle.xp_console.specs.declared.client.Look.TheVariants.{Goes, Over, Waits}

-- where it is not over, it ends later than at this moment
abbrev pub StaysYoung : Look → ℕ → ℕ → Type 0
StaysYoung Over moment ends = ⊤
StaysYoung Waits moment ends = moment < ends
StaysYoung Goes moment ends = moment < ends
