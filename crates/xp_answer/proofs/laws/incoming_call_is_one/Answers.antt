use Rattle.xp_answer.proofs.Once.{incoming_call_same}
use Rattle.xp_answer.proofs.laws.incoming_call_is_one.Goals as goal

pub returns : goal.returns
returns g c ring called calling d block one other first second = incoming_call_same ring called calling d block one other first second
