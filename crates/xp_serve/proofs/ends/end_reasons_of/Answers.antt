use Rattle.std.proofs.Common.{[], ◌∷◌, ◌++◌, ap, arith, sym, ◌∙◌}
use Rattle.xp_serve.proofs.EarlyEnds.{one_reason_more}
use Rattle.xp_serve.proofs.ends.end_reasons_of.Goals as goal

pub loop-end-preserved : goal.loop-end-preserved
loop-end-preserved g c =
    let was = c.loop-end.invariant in
    let pushed = c.push_reserved.ensures in
    let end = c.end-item.result in
    record {
      room = let len = pushed.len in let capacity = pushed.capacity in let room = was.room in omega (arith, len, capacity, room);
      reasons =
          pushed.items ∙ ap (λ reasons. reasons ++ end.why ∷ []) was.reasons
          ∙ sym (one_reason_more (λ end. end.why) c.args.ends.now c.loop-end.end-index end c.loop-end-test.true c.end-item.is);
    }
