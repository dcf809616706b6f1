use Rattle.std.proofs.Common.{◌≡◌, ◌+◌, ◌*◌, ◌≤◌, ◌++◌, ◌∷◌, length}
use Rattle.xp_packets.specs.Digits.{AreDigits}
use Rattle.xp_facilities.specs.Octets.{reason_octet}
use Rattle.xp_packets.specs.Writing.{packed}
use Rattle.xp_facilities.proofs.writer.redirection.Given as goal

abbrev pub invariant-loop-rest : goal.invariant-loop-rest
invariant-loop-rest l = record {
  value : l.parameters.items ++ packed l.rest ≡ reason_octet l.redirected.reason ∷ length l.redirected.dialled ∷ packed l.redirected.dialled;
  room : 2 * length l.parameters.items + length l.rest ≤ 19;
  digits : AreDigits l.rest;
}

abbrev pub decreases-loop-rest : goal.decreases-loop-rest
decreases-loop-rest l = length l.rest
