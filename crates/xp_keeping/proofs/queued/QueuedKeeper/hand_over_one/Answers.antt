use Rattle.std.proofs.Common.{◌≡◌, IfSome, subst, sym}
use Rattle.xp_keeping.proofs.QueueLemmas.{hands_one}
use Rattle.xp_keeping.proofs.queued.QueuedKeeper.hand_over_one.Goals as goal

pub invariant_of-self : goal.invariant_of-self
invariant_of-self g c =
    let was = c.self.inside in
    let added = c.add-self-inside.ensures in (
      rw (c.tell-call.ensures.given)
          (hands_one was.queue.all c.add-self-inside.new.queue.all was.telling.given c.tell-call.result was.is_short c.add-self-inside.result c.self.invariant.0 added.1),
      subst (λ queue. IfSome was.thread (λ handle. (handle.promise.first.value ≡ was.first.value) × (handle.promise.records.value.queue ≡ queue))) (sym added.0) c.self.invariant.1,
    )
