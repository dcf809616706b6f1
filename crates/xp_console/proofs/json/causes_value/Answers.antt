use Rattle.std.proofs.Common.{◌≡◌, ◌<◌, ◌∙◌, ap, arith, length, map, refl}
use Rattle.std.proofs.lemmas.List.{map-append, map_more, take_all}
use Rattle.serde_json.proofs.Views.{view-Array}
use Rattle.serde_json.specs.Data.{array}
use Rattle.serde_json.specs.View.{items_of, view}
use Rattle.xp_console.specs.Json.{refused_data}
use Rattle.xp_console.proofs.json.causes_value.Goals as goal

pub loop-count-preserved : goal.loop-count-preserved
loop-count-preserved c =
    let counts = c.by_cause-counts.result in
    let place = c.loop-count.count-index in
    let ten : length counts ≡ 10 = ap length c.by_cause-counts.ensures in
    let here : place < length counts = omega arith in
    rw (c.in_ok-push.ensures.items, map-append, map_more refused_data counts place (0, 0) here, c.loop-count.invariant, c.in_ok-refused_value.ensures) refl

pub returns : goal.returns
returns c =
    let counts = c.by_cause-counts.result in
    let ten : length counts ≡ 10 = ap length c.by_cause-counts.ensures in
    view-Array c.loop-count.values
    ∙ ap (λ seen. array (items_of seen)) (c.loop-count.invariant ∙ ap (map refused_data) (take_all c.loop-count.count-index counts (omega arith) ∙ c.by_cause-counts.ensures))
