use Rattle.std.proofs.Common.{rules, ◌≡◌, ◌<◌, ◌+◌, length, map, subst, sym, take}
use Rattle.xp_observer.proofs.Shown.{one_name_more}
use Rattle.xp_observer.specs.Shown.{names_at, names_in}
use Rattle.xp_observer.proofs.naming.named_lines.Goals as goal
use Rattle.xp_subs.specs.Tables.{no_line}

pub loop-place-preserved : goal.loop-place-preserved
loop-place-preserved c =
    let lines = c.args.subs.now.lines in
    let place = c.loop-place.place in
    let within : place < length lines = search rules in
    subst (λ items. map names_in items ≡ map (names_at c.args.subs.now) (take (place + 1) lines)) (sym c.in_ok-push.ensures.items)
    (one_name_more c.args.subs.now _ lines place _ no_line within c.loop-place.invariant (search rules))
