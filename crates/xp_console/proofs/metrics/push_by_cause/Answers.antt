use Rattle.std.proofs.Common.{◌≡◌, ◌++◌, ◌∙◌, ap, arith, flat_map, length, string_bytes}
use Rattle.std.proofs.lemmas.List.{take_all}
use Rattle.xp_console.specs.Metrics.{cause_sample, causes_text}
use Rattle.xp_console.proofs.Appends.{both_appended}
use Rattle.xp_console.proofs.metrics.push_by_cause.Goals as goal

pub returns : goal.returns
unfolding causes_text
returns c =
    let samples = c.by_cause-counts.result in
    let ten : length samples ≡ 10 = ap length c.by_cause-counts.ensures in
    both_appended _ _ _ _ _ c.in_ok-push_head.ensures
    (c.loop-count.invariant ∙ ap (λ all. string_bytes c.push_head.new.text ++ flat_map (cause_sample c.args.name.now) all) (take_all c.loop-count.count-index samples (omega arith) ∙ c.by_cause-counts.ensures))
