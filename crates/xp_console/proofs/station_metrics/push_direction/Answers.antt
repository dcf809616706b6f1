use Rattle.std.specs.Prelude.{codes, decimal}
use Rattle.xp_console.specs.Metrics.{station_direction_text}
use Rattle.xp_console.proofs.Appends.{six_then}
use Rattle.xp_console.proofs.station_metrics.push_direction.Goals as goal

pub returns : goal.returns
unfolding station_direction_text
returns c =
    six_then c.push_str.result _ _ _ _ c.args.name.now (codes "{address=\"") c.args.address.now (codes "\",direction=\"") c.args.direction.now (codes "\"} ")
    (decimal c.args.count) (codes "\n") c.in_ok-push_all.ensures c.in_ok-push_number.ensures c.push_str.ensures.bytes
