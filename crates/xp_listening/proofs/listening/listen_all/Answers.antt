use Rattle.std.proofs.Common.{◌+◌, ◌<◌, arith, subst, sym, take}
use Rattle.xp_links.specs.Pairs.{AreEach}
use Rattle.xp_listening.specs.Accesses.{IsServedAt}
use Rattle.xp_subs.specs.Tables.{line_count}
use Rattle.xp_listening.proofs.Accesses.{served_more}
use Rattle.xp_listening.proofs.listening.listen_all.Goals as goal

pub loop-line-preserved : goal.loop-line-preserved
loop-line-preserved g c =
    let subs = c.args.subs.now in
    let line = c.loop-line.line in
    let below = c.loop-line-test.true in
    let count = c.counts-lines.ensures.lines in
    let within : line < line_count subs = omega (arith, below, count) in
    let one = c.in_ok-listen.ensures.one in
    subst (AreEach (IsServedAt subs) (take (line + 1) subs.lines)) (sym one.1)
    (served_more subs subs.lines line c.loop-line.sockets one.0 within c.loop-line.invariant one.2)
