use Rattle.std.proofs.Common.{get_or}
use Rattle.xp_trace.proofs.Following.{follows_more, passes_one}
use Rattle.xp_trace.proofs.stream.follow.Goals as goal

pub loop-octet-preserved : goal.loop-octet-preserved
loop-octet-preserved c =
    follows_more c.args.watch.now c.args.octets.now c.loop-octet.octet-index c.loop-octet.watch c.pass.new.self c.loop-octet.invariant c.loop-octet-test.true
    (passes_one c.loop-octet.watch (get_or c.args.octets.now c.loop-octet.octet-index 0) c.pass.new.self c.pass.result c.pass.ensures.part c.pass.ensures.whole c.pass.ensures.rest)
