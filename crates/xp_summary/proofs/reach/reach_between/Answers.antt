use Rattle.std.proofs.lemmas.Bool.{iff_false}
use Rattle.xp_summary.proofs.Reaching.{never_open, never_through, plainly, by_selection}
use Rattle.xp_summary.proofs.reach.reach_between.Goals as goal

pub returns-then-not-is_open : goal.returns-then-not-is_open
returns-then-not-is_open c =
    let is_open = rw (c.station-from.ensures, c.station-to.ensures) at c.is_open.ensures in
    never_open c.args.subs.now c.args.caller c.args.called c.counts.ensures.sound c.requires.caller c.requires.called
    (iff_false is_open c.if-not-is_open.true)

pub returns-then-lets_through : goal.returns-then-lets_through
returns-then-lets_through c =
    let is_open = rw (c.station-from.ensures, c.station-to.ensures) at c.is_open.ensures in
    let plain = rw (c.station-from.ensures, c.station-to.ensures) at c.lets_through.ensures in
    plainly c.args.subs.now c.args.caller c.args.called c.counts.ensures.sound c.requires.caller c.requires.called
    (is_open.0 c.if-not-is_open.false) (plain.0 c.if-lets_through.true)

pub returns-then-lets_through_in_some : goal.returns-then-lets_through_in_some
returns-then-lets_through_in_some c =
    let is_open = rw (c.station-from.ensures, c.station-to.ensures) at c.is_open.ensures in
    let plain = rw (c.station-from.ensures, c.station-to.ensures) at c.lets_through.ensures in
    let some = rw (c.station-from.ensures, c.station-to.ensures) at c.lets_through_in_some.ensures in
    by_selection c.args.subs.now c.args.caller c.args.called c.counts.ensures.sound c.requires.caller c.requires.called
    (is_open.0 c.if-not-is_open.false) (iff_false plain c.if-lets_through.false) (some.0 c.if-lets_through_in_some.true)

pub returns-else-lets_through_in_some : goal.returns-else-lets_through_in_some
returns-else-lets_through_in_some c =
    let plain = rw (c.station-from.ensures, c.station-to.ensures) at c.lets_through.ensures in
    let some = rw (c.station-from.ensures, c.station-to.ensures) at c.lets_through_in_some.ensures in
    never_through c.args.subs.now c.args.caller c.args.called c.counts.ensures.sound c.requires.caller c.requires.called
    (iff_false plain c.if-lets_through.false) (iff_false some c.if-lets_through_in_some.false)
