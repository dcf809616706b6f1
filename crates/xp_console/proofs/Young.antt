-- Connections that have not come to their end.
use Rattle.std.proofs.Common.{◌<◌, ℕ}
use Rattle.xp_console.specs.declared.client.Look.{Look}
use Rattle.xp_console.specs.declared.client.Look.TheVariants.{Goes, Over, Waits}
use Rattle.xp_console.specs.steps.Clients.{StaysYoung}

pub stays_young : (look : Look) (moment ends : ℕ) → moment < ends → StaysYoung look moment ends
stays_young Over moment ends h = tt
stays_young Waits moment ends h = h
stays_young Goes moment ends h = h
