use Rattle.std.proofs.Common.{◌≡◌, List, ℕ, ◌<◌, length, slice_index_or, sym, ◌∙◌, ap, subst}
use Rattle.xp_subs.specs.Tables.{line_count, station_at}
use Rattle.xp_subs.specs.declared.station.Station.{Station}
use Rattle.xp_explain.proofs.LineLemmas.{line_of_station}
use Rattle.xp_explain.proofs.telling.push_names.Goals as goal

pub name_of-requires : goal.name_of-requires
name_of-requires c =
    let items : c.as_slice-line-items.result.now ≡ (station_at c.args.subs.now c.args.station).lines.items =
    c.as_slice-line-items.ensures.value ∙ ap (λ (s : Station). s.lines.items) c.station.ensures in
    let P : List ℕ → Type 0 = λ lines. slice_index_or lines c.loop-line.line-index 0 < line_count c.args.subs.now in
    let L : List ℕ → Type 0 = λ lines. c.loop-line.line-index < length lines in
    subst P (sym items)
    (line_of_station c.args.subs.now c.args.station c.loop-line.line-index c.counts.ensures.sound c.requires (subst L items c.loop-line-test.true))
