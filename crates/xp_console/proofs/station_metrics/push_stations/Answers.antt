use Rattle.xp_console.specs.Metrics.{stations_text}
use Rattle.xp_console.proofs.Appends.{then_appended}
use Rattle.xp_console.proofs.station_metrics.push_stations.Goals as goal

pub returns : goal.returns
unfolding stations_text
returns c = then_appended c.push_refusals.result _ _ _ _ _ c.in_ok-push_calls.ensures c.push_refusals.ensures
