use Rattle.std.specs.Prelude.{codes}
use Rattle.xp_console.specs.Metrics.{head_text}
use Rattle.xp_console.proofs.Appends.{nine_appended}
use Rattle.xp_console.proofs.metrics.push_head.Goals as goal

pub returns : goal.returns
unfolding head_text
returns c =
    nine_appended c.push_all.result _ _ (codes "# HELP ") c.args.name.now (codes " ") c.args.help.now (codes "\n# TYPE ") c.args.name.now (codes " ") c.args.kind.now
    (codes "\n") c.push_all.ensures
