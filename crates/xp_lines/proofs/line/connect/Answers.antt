use Rattle.xp_lines.proofs.Sessions.{connects_later}
use Rattle.xp_lines.proofs.line.connect.Goals as goal

pub returns-in-Came-clause-connects : goal.returns-in-Came-clause-connects
returns-in-Came-clause-connects g c = connects_later _ _ _ _ _ _ _ c.drain.ensures c.come_up.ensures.connects
