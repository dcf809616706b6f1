use Rattle.std.proofs.Common.{ap, set, ◌∙◌}
use Rattle.std.specs.Prelude.{slice_index_or}
use Rattle.xp_subs.specs.Laid.{station_with}
use Rattle.xp_subs.specs.steps.Places.{number_at}
use Rattle.xp_subs.proofs.MovingLemmas.{written, all_written}
use Rattle.xp_subs.proofs.moving.move_stations.Goals as goal

pub loop-station-preserved : goal.loop-station-preserved
loop-station-preserved c =
    ap (λ items. set c.loop-station.stations c.loop-station.station-index
    (record (slice_index_or c.loop-station.stations c.loop-station.station-index c.station-item.result) { lines = record { items = items } }))
    c.moved_lines-station.ensures
    ∙ written (station_with (number_at c.args.places.now)) c.args.stations.now c.loop-station.stations c.loop-station.station-index c.station-item.result
    c.loop-station-test.true c.loop-station.invariant

pub returns : goal.returns
returns c =
    all_written (station_with (number_at c.args.places.now)) c.args.stations.now _ c.loop-station.station-index c.loop-station-test.false c.loop-station.invariant
