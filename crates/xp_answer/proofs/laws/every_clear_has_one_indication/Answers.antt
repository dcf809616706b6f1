use Rattle.xp_answer.proofs.Every.{one_indication}
use Rattle.xp_answer.proofs.laws.every_clear_has_one_indication.Goals as goal

pub returns : goal.returns
returns g c fast cause diagnostic block charging range = one_indication fast cause diagnostic block charging range
