use Rattle.xp_answer.proofs.Sent.{incoming_call_sent}
use Rattle.xp_answer.proofs.laws.incoming_call_can_be_sent.Goals as goal

pub returns : goal.returns
returns g c ring called calling d block packet written most is = incoming_call_sent ring called calling d block packet written most is
