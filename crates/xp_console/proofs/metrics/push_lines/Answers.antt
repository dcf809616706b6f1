use Rattle.xp_console.specs.Metrics.{lines_text}
use Rattle.xp_console.proofs.Appends.{then_appended}
use Rattle.xp_console.proofs.metrics.push_lines.Goals as goal

pub returns : goal.returns
unfolding lines_text
returns c =
    then_appended c.push_states.result _ _ _ _ _ c.in_ok-push_head.ensures c.push_states.ensures
