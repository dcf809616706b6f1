use Rattle.xp_decide.proofs.Refused.{ends_without_line}
use Rattle.xp_decide.proofs.laws.refuses_without_idle_line_alone.Goals as goal

pub returns : goal.returns
returns g c tables states from block refusal decided want = ends_without_line tables states from block refusal decided want
