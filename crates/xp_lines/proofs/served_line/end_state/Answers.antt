use Rattle.xp_lines.proofs.Serving.{so_closes}
use Rattle.xp_lines.proofs.served_line.end_state.Goals as goal

pub returns : goal.returns
returns g c = so_closes _ _ _ _ _ _ _ c.close.ensures.closes c.close.ensures.line
