use Rattle.std.proofs.Common.{◌≡◌, arith, is_some, true}
use Rattle.std.proofs.lemmas.Grind.{common_steps}
use Rattle.xp_script.specs.Command.{octets_of}
use Rattle.xp_script.proofs.DigitLemmas.{digits-octets_of}
use Rattle.xp_script.proofs.command.octets_of.Goals as goal

pub read_digits-requires-clause-digits : goal.read_digits-requires-clause-digits
read_digits-requires-clause-digits g c =
    let some : is_some (octets_of c.args.digits.now) ≡ true = grind (arith, common_steps) in
    digits-octets_of c.args.digits.now some
