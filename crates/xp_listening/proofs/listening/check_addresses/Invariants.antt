use Rattle.std.proofs.Common.{All, take}
use Rattle.xp_listening.specs.Prepared.{HasAddresses}
use Rattle.xp_listening.proofs.listening.check_addresses.Given as goal

abbrev pub invariant-loop-line : goal.invariant-loop-line
invariant-loop-line l = All HasAddresses (take l.line l.subs.lines)
