use Rattle.xp_answer.proofs.Sent.{carried_on_sent}
use Rattle.xp_answer.proofs.laws.forwarded_clear_can_be_sent.Goals as goal

pub returns : goal.returns
returns g c fast cause diagnostic block charging packet most is = carried_on_sent fast cause diagnostic block charging packet most is
