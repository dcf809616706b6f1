use Rattle.xp_subs.specs.Built.{line_from}
use Rattle.xp_subs.proofs.StepLemmas.{one_made}
use Rattle.xp_subs.proofs.build.push_lines.Goals as goal

pub loop-entry-preserved : goal.loop-entry-preserved
loop-entry-preserved c =
    rw c.in_ok-push.ensures.items
    (one_made (line_from c.args.station) c.args.entries.now c.loop-entry.entry-index c.entry-item.result c.loop-entry-test.true c.entry-item.is c.loop-entry.lines.items _ c.line.result c.line.ensures
    c.loop-entry.invariant)
