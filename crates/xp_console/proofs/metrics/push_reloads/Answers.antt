use Rattle.xp_console.specs.Metrics.{reloads_text}
use Rattle.xp_console.proofs.Appends.{then_appended}
use Rattle.xp_console.proofs.metrics.push_reloads.Goals as goal

pub returns : goal.returns
unfolding reloads_text
returns c = then_appended c.push_results.result _ _ _ _ _ c.in_ok-push_head.ensures c.push_results.ensures
