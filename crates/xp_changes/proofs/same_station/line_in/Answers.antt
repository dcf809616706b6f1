use Rattle.std.proofs.Common.{◌≡◌, ◌∙◌, List, ℕ, ap, slice_index_or, subst, sym}
use Rattle.xp_subs.specs.Tables.{IsThere, station_at}
use Rattle.xp_subs.specs.declared.station.Station.{Station}
use Rattle.xp_changes.proofs.LineLemmas.{line_of_station}
use Rattle.xp_changes.proofs.same_station.line_in.Goals as goal

pub returns-clause-there : goal.returns-clause-there
returns-clause-there c =
    let items : c.as_slice.result.now ≡ (station_at c.args.subs.now c.args.station).lines.items =
    c.as_slice.ensures.value ∙ ap (λ (s : Station). s.lines.items) c.station.ensures in
    subst (λ (lines : List ℕ). IsThere c.args.subs.now (slice_index_or lines c.args.place 0)) (sym items)
    (line_of_station c.args.subs.now c.args.station c.args.place c.counts.ensures.sound c.requires.station c.requires.place)
