use Rattle.xp_core.proofs.Existence.{has_step}
use Rattle.xp_core.proofs.laws.every_event_has_a_step.Goals as goal

pub returns : goal.returns
returns g c tables history world event sound run line readable = has_step tables history world event sound run line readable
