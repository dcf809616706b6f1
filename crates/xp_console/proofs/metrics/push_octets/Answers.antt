use Rattle.xp_console.specs.Metrics.{octets_text}
use Rattle.xp_console.proofs.Appends.{then_appended}
use Rattle.xp_console.proofs.metrics.push_octets.Goals as goal

pub returns : goal.returns
unfolding octets_text
returns c = then_appended c.push_directions.result _ _ _ _ _ c.in_ok-push_head.ensures c.push_directions.ensures
