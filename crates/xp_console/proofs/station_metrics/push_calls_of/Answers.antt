use Rattle.std.proofs.Common.{sym}
use Rattle.xp_console.specs.Metrics.{station_calls_sample, station_directions_text}
use Rattle.xp_console.proofs.Appends.{then_appended}
use Rattle.xp_console.proofs.station_metrics.push_calls_of.Goals as goal

pub returns : goal.returns
unfolding station_calls_sample station_directions_text
returns c =
    rw (sym c.as_str-address.ensures.value) (then_appended c.push_direction-2.result _ _ _ _ _ c.in_ok-push_direction.ensures c.push_direction-2.ensures)
