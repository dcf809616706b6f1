use Rattle.xp_subs.specs.declared.line.Line.{Line}
use Rattle.xp_subs.specs.steps.Places.{number_of}
use Rattle.xp_subs.proofs.StepLemmas.{one_made}
use Rattle.xp_subs.proofs.subs.Subs.numbers_in.Goals as goal

pub loop-line-preserved : goal.loop-line-preserved
loop-line-preserved c =
    rw c.in_ok-push.ensures.items
    (one_made (λ (line : Line). number_of c.args.self.now line.name) c.args.lines.now c.loop-line.line-index c.line-item.result c.loop-line-test.true c.line-item.is c.loop-line.numbers.items _
    c.number_of.result c.number_of.ensures c.loop-line.invariant)
