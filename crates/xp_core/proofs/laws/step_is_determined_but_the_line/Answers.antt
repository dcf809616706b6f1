use Rattle.xp_core.proofs.Outcomes.{steps_same}
use Rattle.xp_core.proofs.laws.step_is_determined_but_the_line.Goals as goal

pub returns : goal.returns
returns g c tables history world one next other next' first second event = steps_same tables history world one next other next' first second event
