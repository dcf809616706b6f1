use Rattle.xp_arguments.specs.steps.Rows.{command_with}
use Rattle.xp_arguments.proofs.Shapes.{local_still, one_more}
use Rattle.xp_arguments.proofs.arguments.subcommand.Goals as goal

pub loop-row-preserved : goal.loop-row-preserved
loop-row-preserved c = record {
  shape =
      one_more c.loop-row.command c.in_ok-command.command c.arg.result c.in_ok-command.ensures c.arg.ensures.local c.arguments_of-row-items.result.now c.loop-row.row-index _ (command_with c.args.verb)
      c.loop-row-test.true c.loop-row.invariant.shape c.arg.ensures.rule;
  local = local_still c.loop-row.command c.in_ok-command.command c.arg.result c.in_ok-command.ensures c.arg.ensures.local c.loop-row.invariant.local;
}
