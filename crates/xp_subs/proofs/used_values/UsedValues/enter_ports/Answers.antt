use Rattle.std.proofs.Common.{◌∙◌}
use Rattle.xp_subs.proofs.StepLemmas.{one_port}
use Rattle.xp_subs.proofs.used_values.UsedValues.enter_ports.Goals as goal

pub loop-entry-preserved : goal.loop-entry-preserved
loop-entry-preserved c =
    c.loop-entry.invariant
    ∙ one_port c.args.lines.now c.loop-entry.entry-index c.entry-item.result c.loop-entry-test.true c.entry-item.is c.loop-entry.self _ c.in_ok-enter_access.ensures.ok
