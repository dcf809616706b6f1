use Rattle.std.proofs.Common.{refl}
use Rattle.xp_cdr.specs.Ended.{ended_as}
use Rattle.xp_keeping.proofs.ToldLemmas.{one_more}
use Rattle.xp_keeping.proofs.telling.Telling.tell.Goals as goal

pub invariant_of-self : goal.invariant_of-self
invariant_of-self c =
    let was = c.self.inside in
    rw (c.push.ensures, c.of-call.ensures) (one_more was.earlier.items was.subs was.given.items (ended_as was.subs c.args.by c.args.ended.now) refl c.self.invariant)
