use Rattle.xp_live.proofs.AreLive.{are_live}
use Rattle.xp_live.proofs.laws.live_calls_are_connected.Goals as goal

pub returns : goal.returns
returns c = λ names tables history view moment as_many run shows. are_live names tables history moment as_many view shows run
