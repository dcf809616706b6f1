use Rattle.std.proofs.Common.{◌+◌, sym, subst, take, ap, ◌∙◌, arith}
use Rattle.xp_clearing.specs.Calls.{Passes}
use Rattle.xp_clearing.specs.Clearings.{after_received, takes_no_more}
use Rattle.xp_clearing.proofs.Passing.{part_passes, whole_passes}
use Rattle.xp_clearing.proofs.call_watch.receive_through.Goals as goal
use Rattle.xp_clearing.proofs.call_watch.receive_through.Goals.{in-Some+else-takes_no_more, in_default}

pub returns-then-takes_no_more-clause-passes : goal.returns-then-takes_no_more-clause-passes
returns-then-takes_no_more-clause-passes c =
    let before = c.loop-place.invariant in
    record {
      within = omega (arith, c.loop-place-test.true);
      passes = whole_passes after_received takes_no_more _ _ c.args.octets.now c.loop-place.place _ _ c.loop-place.received _ c.in-Some.frame before.0 before.1 c.loop-place-test.true c.in-Some.ensures.whole c.after_received.ensures;
      all = λ _. sym c.takes_no_more.ensures ∙ c.if-takes_no_more.true;
      ended = λ _. c.in-Some.ensures.whole.0;
    }

pub loop-place-preserved : goal.loop-place-preserved
loop-place-preserved c =
    let before = c.loop-place.invariant in
    elim c.match-pass.branch [
      | in-Some+else-takes_no_more w ↦ (
        whole_passes after_received takes_no_more _ _ c.args.octets.now c.loop-place.place _ _ c.loop-place.received _ w.in-Some.frame before.0 before.1 c.loop-place-test.true w.in-Some.ensures.whole (w.clearing-is ∙ w.after_received.ensures),
        ap takes_no_more w.clearing-is ∙ sym w.takes_no_more.ensures ∙ w.if-takes_no_more.false,
        c.pass.ensures.rest,
      )
      | in_default w ↦ (
        subst (λ far. Passes after_received takes_no_more c.args.clearing.now c.args.received.now (take (c.loop-place.place + 1) c.args.octets.now) far c.pass.new.self) (sym w.clearing-is)
            (part_passes after_received takes_no_more _ _ c.args.octets.now c.loop-place.place _ c.loop-place.received _ before.0 c.loop-place-test.true (c.pass.ensures.part w.in_default.is) c.pass.ensures.rest),
        ap takes_no_more w.clearing-is ∙ before.1,
        c.pass.ensures.rest,
      )
    ]
