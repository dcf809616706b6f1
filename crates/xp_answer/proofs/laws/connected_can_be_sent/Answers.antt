use Rattle.xp_answer.proofs.Sent.{connected_sent}
use Rattle.xp_answer.proofs.laws.connected_can_be_sent.Goals as goal

pub returns : goal.returns
returns g c setup address dialled d block connection most answered = connected_sent setup address dialled d block answered.0 connection most answered.2
