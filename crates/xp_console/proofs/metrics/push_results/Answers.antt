use Rattle.xp_console.specs.Metrics.{results_text}
use Rattle.xp_console.proofs.Appends.{then_appended}
use Rattle.xp_console.proofs.metrics.push_results.Goals as goal

pub returns : goal.returns
unfolding results_text
returns c = then_appended c.push_labelled-2.result _ _ _ _ _ c.in_ok-push_labelled.ensures c.push_labelled-2.ensures
