use Rattle.std.proofs.Common.{◌≡◌, ◌∙◌, ◌+◌, ◌<◌, ◌++◌, ℕ, List, [], ◌∷◌, ap, append_assoc, arith, drop, get_or, length, sym}
use Rattle.xp_file.proofs.Lists.{rest_at}
use Rattle.xp_file.specs.Entries.{StationData}
use Rattle.xp_subs.specs.Built.{station_from, stations_from}
use Rattle.xp_subs.specs.declared.station.Station.{Station}
use Rattle.xp_subs.proofs.StepLemmas.{lines_counted}
use Rattle.xp_subs.proofs.build.stations.Goals as goal

module _ (entries : List StationData) (i : ℕ) (entry : StationData) (within : i < length entries) (here : entry ≡ get_or entries i entry) (count : ℕ) (count_is : count ≡ length entry.lines) where
  -- one more station
  built : (known : List (List ℕ)) (before all : List Station) (first : ℕ) (station : Station) → station ≡ station_from known first entry
      → before ++ stations_from known first (drop i entries) ≡ all
      → (before ++ station ∷ []) ++ stations_from known (first + count) (drop (i + 1) entries) ≡ all
  built known before all first station is so_far =
      append_assoc before (station ∷ []) (stations_from known (first + count) (drop (i + 1) entries))
      ∙ ap (λ n. before ++ station ∷ stations_from known (first + n) (drop (i + 1) entries)) count_is
      ∙ ap (λ s. before ++ s ∷ stations_from known (first + length entry.lines) (drop (i + 1) entries)) is
      ∙ sym (ap (λ rest. before ++ stations_from known first rest) (rest_at entries i entry within here))
      ∙ so_far

pub loop-entry-preserved : goal.loop-entry-preserved
loop-entry-preserved c =
    let entry = c.entry-item.result in
    let within = c.loop-entry-test.true in
    let count_is : c.len.result ≡ length entry.lines = omega (arith, c.len.ensures, c.entry.inside.lines.ok.0, ap (λ (station : StationData). length station.lines) c.entry.view_is) in (
      rw c.in_ok-push.ensures.items
          (built c.args.entries.now c.loop-entry.entry-index entry within c.entry-item.is c.len.result count_is c.args.known.now.keys c.loop-entry.stations.items _ c.loop-entry.first c.station.result
          c.station.ensures c.loop-entry.invariant.0),
      lines_counted c.args.entries.now c.loop-entry.entry-index entry within c.entry-item.is c.len.result count_is c.loop-entry.first c.loop-entry.invariant.1,
    )
