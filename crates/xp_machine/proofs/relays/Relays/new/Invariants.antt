use Rattle.std.proofs.Common.{◌≡◌, None, replicate}
use Rattle.xp_machine.proofs.relays.Relays.new.Given as goal

abbrev pub invariant-loop : goal.invariant-loop
invariant-loop g l = l.by_caller.items ≡ replicate l.counter None
