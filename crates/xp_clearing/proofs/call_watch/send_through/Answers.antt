use Rattle.std.proofs.Common.{◌+◌, sym, subst, take, ap, ◌∙◌, arith}
use Rattle.xp_clearing.specs.Calls.{Passes}
use Rattle.xp_clearing.specs.Clearings.{after_sent, is_settled}
use Rattle.xp_clearing.proofs.Passing.{part_passes, whole_passes}
use Rattle.xp_clearing.proofs.call_watch.send_through.Goals as goal
use Rattle.xp_clearing.proofs.call_watch.send_through.Goals.{in-Some+else-is_settled, in_default}

pub returns-then-is_settled-clause-passes : goal.returns-then-is_settled-clause-passes
returns-then-is_settled-clause-passes c =
    let before = c.loop-place.invariant in
    record {
      within = omega (arith, c.loop-place-test.true);
      passes = whole_passes after_sent is_settled _ _ c.args.octets.now c.loop-place.place _ _ c.loop-place.sent _ c.in-Some.frame before.0 before.1 c.loop-place-test.true c.in-Some.ensures.whole c.after_sent.ensures;
      all = λ _. sym c.is_settled.ensures ∙ c.if-is_settled.true;
      ended = λ _. c.in-Some.ensures.whole.0;
    }

pub loop-place-preserved : goal.loop-place-preserved
loop-place-preserved c =
    let before = c.loop-place.invariant in
    elim c.match-pass.branch [
      | in-Some+else-is_settled w ↦ (
        whole_passes after_sent is_settled _ _ c.args.octets.now c.loop-place.place _ _ c.loop-place.sent _ w.in-Some.frame before.0 before.1 c.loop-place-test.true w.in-Some.ensures.whole (w.clearing-is ∙ w.after_sent.ensures),
        ap is_settled w.clearing-is ∙ sym w.is_settled.ensures ∙ w.if-is_settled.false,
        c.pass.ensures.rest,
      )
      | in_default w ↦ (
        subst (λ far. Passes after_sent is_settled c.args.clearing.now c.args.sent.now (take (c.loop-place.place + 1) c.args.octets.now) far c.pass.new.self) (sym w.clearing-is)
            (part_passes after_sent is_settled _ _ c.args.octets.now c.loop-place.place _ c.loop-place.sent _ before.0 c.loop-place-test.true (c.pass.ensures.part w.in_default.is) c.pass.ensures.rest),
        ap is_settled w.clearing-is ∙ before.1,
        c.pass.ensures.rest,
      )
    ]
