use Rattle.std.proofs.Common.{◌∙◌, arith}
use Rattle.xp_subs.proofs.StepLemmas.{one_address}
use Rattle.xp_subs.proofs.used_values.UsedValues.enter_addresses.Goals as goal

pub loop-entry-preserved : goal.loop-entry-preserved
loop-entry-preserved c = (
  c.loop-entry.invariant.0
      ∙ one_address c.args.lines.now c.loop-entry.entry-index c.entry-item.result c.loop-entry-test.true c.entry-item.is c.loop-entry.self _ c.args.station c.loop-entry.line
      c.in_ok-enter_own.ensures.ok,
  omega (arith, c.loop-entry.invariant.1),
)
