use Rattle.std.proofs.Common.{sym}
use Rattle.xp_console.specs.Metrics.{station_refusals_sample}
use Rattle.xp_console.proofs.station_metrics.push_refusals_of.Goals as goal

pub returns : goal.returns
unfolding station_refusals_sample
returns c = rw (sym c.as_str.ensures.value) c.push_labelled.ensures
