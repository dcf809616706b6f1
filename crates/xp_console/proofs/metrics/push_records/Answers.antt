use Rattle.xp_console.specs.Metrics.{records_text}
use Rattle.xp_console.proofs.Appends.{then_appended}
use Rattle.xp_console.proofs.metrics.push_records.Goals as goal

pub returns : goal.returns
unfolding records_text
returns c = then_appended c.push_single-2.result _ _ _ _ _ c.in_ok-push_single.ensures c.push_single-2.ensures
