use Rattle.xp_lines.proofs.Together.{add_up}
use Rattle.xp_lines.proofs.laws.turns_add_up.Goals as goal

pub returns : goal.returns
returns g c modulus connection pass came turns fresh are = add_up _ modulus connection pass came turns fresh are
