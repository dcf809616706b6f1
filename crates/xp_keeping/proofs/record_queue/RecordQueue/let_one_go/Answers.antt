use Rattle.std.proofs.Common.{◌-◌, ◌<◌, ◌++◌, ap, arith, length, sym, take, ◌∙◌}
use Rattle.xp_keeping.proofs.QueueLemmas.{one_gone}
use Rattle.xp_keeping.proofs.record_queue.RecordQueue.let_one_go.Goals as goal

pub invariant_of-self : goal.invariant_of-self
invariant_of-self c =
    let was = c.self.inside in
    let rest = c.pop_front.new.self.items in
    let first = c.in-Some.ensures.items in
    let some : 0 < was.sent = omega (arith, c.if-self-eq0.false) in (
      one_gone was.put.put was.gone.items was.left.items rest c.in-Some.ended was.sent c.self.invariant.0 first some ∙ ap (λ gone. gone ++ take (was.sent - 1) rest) (sym c.push.ensures),
      omega (arith, c.self.invariant.1, ap length first, some),
    )
