use Rattle.std.proofs.Common.{◌≡◌, ◌*◌, ◌++◌, take, drop}
use Rattle.hex.specs.Hex.{encode_lower}
use Rattle.xp_script.proofs.digits.write_digits.Given as goal

abbrev pub invariant-octets : goal.invariant-octets
invariant-octets l = take (2 * l.place) l.digits ++ encode_lower (drop l.place l.octets) ≡ encode_lower l.octets
