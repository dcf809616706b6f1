use Rattle.xp_answer.proofs.Settled.{connection_settled}
use Rattle.xp_answer.proofs.laws.connections_settle_terms.Goals as goal

pub returns : goal.returns
returns g c modulus setup address dialled d block connection terms (asked, accepts, connects) =
    connection_settled modulus setup address dialled d block asked connection terms accepts connects
