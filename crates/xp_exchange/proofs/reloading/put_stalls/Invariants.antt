use Rattle.std.proofs.Common.{◌≡◌, take}
use Rattle.xp_exchange.specs.Play.{stalls_at}
use Rattle.xp_exchange.proofs.reloading.put_stalls.Given as goal

abbrev pub invariant-loop-line : goal.invariant-loop-line
invariant-loop-line g l = l.events.items ≡ stalls_at l.moment (take l.line-index l.lines)
