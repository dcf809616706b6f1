use Rattle.xp_lines.proofs.AddUp.{links_add_up}
use Rattle.xp_lines.proofs.laws.links_add_up.Goals as goal

pub returns : goal.returns
returns g c subs old sessions new are = links_add_up _ subs old sessions new are
