use Rattle.xp_arguments.specs.Commands.{program}
use Rattle.xp_arguments.proofs.Shapes.{added, all_verbs, one_verb}
use Rattle.xp_arguments.proofs.arguments.command.Goals as goal

pub loop-verb-preserved : goal.loop-verb-preserved
loop-verb-preserved c =
    let both = added c.loop-verb.command _ c.in_ok-command.command _ c.in_ok-subcommand.ensures.shape c.in_ok-subcommand.ensures.local c.loop-verb.invariant.local c.in_ok-command.ensures in
    record {
      shape = one_verb c.loop-verb.command c.in_ok-command.command all_verbs c.loop-verb.verb-index _ program c.loop-verb-test.true c.loop-verb.invariant.shape both.0;
      local = both.1;
    }
