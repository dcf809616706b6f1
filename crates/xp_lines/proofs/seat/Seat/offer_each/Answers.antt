use Rattle.std.proofs.Common.{ap, arith, length, rules, subst, sym}
use Rattle.xp_lines.proofs.Offered.{TakenSoFar, accepted, taken_none, taken_one}
use Rattle.xp_lines.proofs.seat.Seat.offer_each.Goals as goal

pub loop-next-init : goal.loop-next-init
loop-next-init g c = record {
  many = search rules;
  so_far =
      subst (λ left. TakenSoFar c.args.self.now.pass c.args.ready.items left c.args.self.now.pass) (sym c.into_iter-next-iterator.ensures.into_iter_gives.0)
      (taken_none c.args.self.now.pass c.args.ready.items);
}

pub loop-next-preserved : goal.loop-next-preserved
loop-next-preserved g c =
    let was = c.loop-next.invariant in
    let items = c.in-Some.ensures.steps.0 in
    let fewer = c.in-Some.ensures.steps.1 in
    record {
      many = let one = ap length items in let many = was.many in omega (arith, one, fewer, many);
      so_far = taken_one _ _ _ _ _ _ _ was.so_far items (accepted _ _ _ _ _ c.offer_held.ensures.tells c.in_ok-offer_held.was);
    }
