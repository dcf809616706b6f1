use Rattle.std.proofs.Common.{◌≡◌}
use Rattle.xp_console.proofs.console.Console.take_clients.Given as goal

abbrev pub invariant-loop-taken : goal.invariant-loop-taken
invariant-loop-taken l = l.self ≡ l.fn.self
