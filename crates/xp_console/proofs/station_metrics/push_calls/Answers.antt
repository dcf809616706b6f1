use Rattle.std.proofs.Common.{◌++◌, ◌∙◌, ap, arith, flat_map, string_bytes}
use Rattle.std.proofs.lemmas.List.{take_all}
use Rattle.xp_console.specs.Metrics.{station_calls_sample, station_calls_text}
use Rattle.xp_console.proofs.Appends.{both_appended}
use Rattle.xp_console.proofs.station_metrics.push_calls.Goals as goal

pub returns : goal.returns
unfolding station_calls_text
returns c =
    let samples = c.args.stations.now in
    both_appended _ _ _ _ _ c.in_ok-push_head.ensures
    (c.loop-number.invariant ∙ ap (λ all. string_bytes c.push_head.new.text ++ flat_map station_calls_sample all) (take_all c.loop-number.number samples (omega arith)))
