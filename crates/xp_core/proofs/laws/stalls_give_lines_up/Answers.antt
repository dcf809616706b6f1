use Rattle.xp_core.proofs.GivenUp.{gives_up}
use Rattle.xp_core.proofs.laws.stalls_give_lines_up.Goals as goal

pub returns : goal.returns
returns g c tables history world entry next run step stall = gives_up tables history world entry next run step stall
