use Rattle.std.proofs.Common.{◌≡◌, ◌+◌, ◌*◌, ◌≤◌, length}
use Rattle.xp_capture.specs.Checksum.{sum_of_octets}
use Rattle.xp_capture.proofs.checksum.sum_of_octets.Given as goal

-- the words so far are added, none above 65,535
abbrev pub invariant-loop-rest : goal.invariant-loop-rest
invariant-loop-rest l =
    (l.sum + sum_of_octets l.rest ≡ sum_of_octets l.fn.octets) × (l.sum + 65_280 * length l.rest ≤ 65_280 * length l.fn.octets)

abbrev pub decreases-loop-rest : goal.decreases-loop-rest
decreases-loop-rest l = length l.rest
