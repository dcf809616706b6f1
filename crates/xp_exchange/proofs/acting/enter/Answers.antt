use Rattle.std.proofs.Common.{◌+◌, ◌≤◌, ap, length, arith}
use Rattle.xp_exchange.proofs.Steps.{entered}
use Rattle.xp_exchange.proofs.acting.enter.Goals as goal

pub returns-in-Ok-clause-ok : goal.returns-in-Ok-clause-ok
returns-in-Ok-clause-ok g c =
    let old = c.args.core.now in
    let room : length old.history + 4 ≤ old.subs.journal =
    omega (arith, c.if-count-journal.false, c.count.ensures.count, c.journal.ensures, ap (λ subs. subs.journal) c.subs.ensures) in
    entered _ _ _ _ _ _ _ c.drop_records.ensures c.in-Ok.ensures.ok room
