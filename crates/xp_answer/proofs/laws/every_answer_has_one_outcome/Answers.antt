use Rattle.xp_answer.proofs.Every.{one_answer}
use Rattle.xp_answer.proofs.laws.every_answer_has_one_outcome.Goals as goal

pub returns : goal.returns
returns g c setup address dialled d block terms = one_answer setup address dialled d block terms
