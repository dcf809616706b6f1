use Rattle.std.proofs.Common.{◌≡◌, take, map}
use Rattle.xp_file.specs.Address.{digit_of}
use Rattle.xp_file.proofs.digits.read_digits.Given as goal

abbrev pub invariant-loop-octet : goal.invariant-loop-octet
invariant-loop-octet l = l.digits ≡ map digit_of (take l.octet-index l.octet-items)
