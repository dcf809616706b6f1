use Rattle.std.proofs.lemmas.Result.{err_from_is_err_and}
use Rattle.xp_lines.proofs.Pulling.{pulls_came, pulls_fed, pulls_nothing}
use Rattle.xp_lines.proofs.session.reading.pull_in.Goals as goal

pub returns-in_err-feed-in-Octets-clause-pulls : goal.returns-in_err-feed-in-Octets-clause-pulls
returns-in_err-feed-in-Octets-clause-pulls g c =
    let p = err_from_is_err_and c.from_residual.result c.from_residual.ensures.1 in
    rw (p.1, p.2) (_, c.in-Octets.ensures.pulled, pulls_fed _ _ _ _ c.in_err-feed-in-Octets.ensures)

pub returns-in_ok-feed-in-Octets-clause-pulls : goal.returns-in_ok-feed-in-Octets-clause-pulls
returns-in_ok-feed-in-Octets-clause-pulls g c = (_, c.in-Octets.ensures.pulled, pulls_came _ _ _ c.in_ok-feed-in-Octets.ensures)

pub returns-in-Nothing-clause-pulls : goal.returns-in-Nothing-clause-pulls
returns-in-Nothing-clause-pulls g c = (_, c.in-Nothing.ensures.pulled, pulls_nothing _ _)

pub returns-in-Ended-clause-pulls : goal.returns-in-Ended-clause-pulls
returns-in-Ended-clause-pulls g c = (_, c.in-Ended.ensures.pulled, pulls_nothing _ _)

pub returns-in-Fault-clause-pulls : goal.returns-in-Fault-clause-pulls
returns-in-Fault-clause-pulls g c = (_, c.in-Fault.ensures.pulled, pulls_nothing _ _)
