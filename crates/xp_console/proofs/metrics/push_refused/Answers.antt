use Rattle.xp_console.specs.Metrics.{refused_text}
use Rattle.xp_console.proofs.Appends.{then_appended}
use Rattle.xp_console.proofs.metrics.push_refused.Goals as goal

pub returns : goal.returns
unfolding refused_text
returns c = then_appended c.push_by_cause-2.result _ _ _ _ _ c.in_ok-push_by_cause.ensures c.push_by_cause-2.ensures
