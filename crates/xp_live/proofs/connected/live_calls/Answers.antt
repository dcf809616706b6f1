use Rattle.std.proofs.Common.{◌≡◌, ◌<◌, Some, length, refl, rules, slice_get}
use Rattle.std.proofs.lemmas.Option.{slice_get_read}
use Rattle.xp_live.proofs.LiveLemmas.{one_more}
use Rattle.xp_live.proofs.connected.live_calls.Goals as goal

pub loop-line-preserved : goal.loop-line-preserved
loop-line-preserved c =
    let subs = c.args.subs.now in
    let moment = c.args.moment in
    let views = c.args.view.now.lines.items in
    let line = c.loop-line.line in
    let view = c.index.result.now in
    let found = c.live_call-found.result in
    let within : line < length views = search rules in
    let at : slice_get views line ≡ Some view = slice_get_read views _ line view refl within c.index.ensures in
    rw (c.in_ok-push_if_some.ensures) (one_more subs moment line views view found _ at c.live_call-found.ensures c.loop-line.invariant)
