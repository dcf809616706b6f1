use Rattle.std.proofs.Common.{◌≡◌, ◌∙◌, ◌+◌, ap, arith, length}
use Rattle.std.proofs.lemmas.Result.{err_from_is_err_and}
use Rattle.xp_file.specs.Entries.{StationData}
use Rattle.xp_subs.proofs.FitLemmas.{lines_at, stations_refused}
use Rattle.xp_subs.proofs.StepLemmas.{lines_counted, one_station}
use Rattle.xp_subs.proofs.used_values.UsedValues.enter_stations.Goals as goal

pub enter_station-requires : goal.enter_station-requires
enter_station-requires c =
    omega (arith, lines_at c.args.stations.now c.loop-station.station-index c.station-item.result c.requires c.loop-station-test.true c.station-item.is)

pub returns-in_err-enter_station-clause-refused : goal.returns-in_err-enter_station-clause-refused
returns-in_err-enter_station-clause-refused c =
    let p = err_from_is_err_and c.from_residual.result c.from_residual.ensures.1 in
    rw (p.1, p.2) (λ apart. c.loop-station.invariant.0 ∙ stations_refused c.args.stations.now c.loop-station.station-index c.station-item.result
    c.loop-station.number c.loop-station.line c.loop-station.self _ c.loop-station-test.true c.station-item.is (c.in_err-enter_station.ensures.refused apart))

pub loop-station-preserved : goal.loop-station-preserved
loop-station-preserved c =
    let station = c.station-item.result in
    let within = c.loop-station-test.true in
    let count_is : c.len.result ≡ length station.lines = omega (arith, c.len.ensures, c.station.inside.lines.ok.0, ap (λ (station : StationData). length station.lines) c.station.view_is) in (
      c.loop-station.invariant.0
          ∙ one_station c.args.stations.now c.loop-station.station-index station within c.station-item.is c.len.result count_is c.loop-station.number c.loop-station.line c.loop-station.self _
          c.in_ok-enter_station.ensures.ok,
      ap (λ n. n + 1) c.loop-station.invariant.1,
      lines_counted c.args.stations.now c.loop-station.station-index station within c.station-item.is c.len.result count_is c.loop-station.line c.loop-station.invariant.2,
    )
