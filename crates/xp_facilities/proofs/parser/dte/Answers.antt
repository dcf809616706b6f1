use Rattle.std.proofs.Common.{◌+◌, ◌<◌, length, sym, ◌∙◌, ap, subst, refl, arith}
use Rattle.std.proofs.lemmas.List.{length-append}
use Rattle.std.proofs.lemmas.Result.{err_from_is_err_and}
use Rattle.xp_facilities.proofs.Asking.{keeps-start, dte-marker, dte-wrong, dte-inside, dte-full, dte-outside, dte-end, on_ok, ok_from, over_from}
use Rattle.xp_facilities.proofs.parser.dte.Goals as goal
use Rattle.xp_facilities.proofs.parser.dte.Goals.{else-inside-via-then-inside+else-is_err, else-inside-via-else-inside}

pub loop-item-init : goal.loop-item-init
loop-item-init c = rw (c.new-kept.ensures, c.again-left.ensures) (record { same = keeps-start c.args.items.now; few = omega arith })

pub returns-in_err-inside : goal.returns-in_err-inside
returns-in_err-inside c =
    let p = err_from_is_err_and c.from_residual.result c.from_residual.ensures.1 in
    let none = dte-wrong c.args.items.now c.loop-item.left c.next.new.self c.in-Some.item c.loop-item.kept.items c.loop-item.inside
    c.in-Some.ensures (sym c.code.ensures ∙ c.if-code-eq-MARKER.true) (rw (← c.parameters.ensures) c.in_err-inside.ensures.0) c.loop-item.invariant.same in
    rw (p.1, p.2) (none, c.in_err-inside.ensures.1)

pub loop-item-preserved-then-code-eq-MARKER : goal.loop-item-preserved-then-code-eq-MARKER
loop-item-preserved-then-code-eq-MARKER c = record {
  same = dte-marker c.args.items.now c.loop-item.left c.next.new.self c.in-Some.item c.loop-item.kept.items c.loop-item.inside c.in_ok-inside.inside
      c.in-Some.ensures (sym c.code.ensures ∙ c.if-code-eq-MARKER.true) (rw (← c.parameters.ensures) c.in_ok-inside.ensures) c.loop-item.invariant.same;
  few = c.loop-item.invariant.few;
}

pub returns-then-is_err : goal.returns-then-is_err
returns-then-is_err c =
    let over : 80 < length c.loop-item.kept.items + length c.octets.result.now =
    over_from c.try_extend_from_slice.result _ 80 (sym c.if-is_err.ensures.value) c.try_extend_from_slice.ensures.variant.1 in (
      dte-full c.args.items.now c.loop-item.left c.next.new.self c.in-Some.item c.loop-item.kept.items c.loop-item.inside
          c.in-Some.ensures (λ h. c.if-code-eq-MARKER.false (c.code.ensures ∙ h)) c.if-inside.true (subst (λ x. 80 < length c.loop-item.kept.items + length x) c.octets.ensures over) c.loop-item.invariant.same,
      refl,
    )

pub loop-item-preserved : goal.loop-item-preserved
loop-item-preserved c =
    elim c.else-inside.branch [
      | else-inside-via-then-inside+else-is_err w ↦
          let ok = on_ok w.try_extend_from_slice.result (sym w.if-is_err.ensures.value) w.try_extend_from_slice.ensures.ok in
          let few = w.try_extend_from_slice.ensures.variant.0 (ok_from w.try_extend_from_slice.result (sym w.if-is_err.ensures.value)) in
          let kept = ap (λ x. x.items) w.kept-is ∙ ok in
          rw (kept) (record {
            same = rw w.octets.ensures
                (dte-inside c.args.items.now c.loop-item.left c.next.new.self c.in-Some.item c.loop-item.kept.items c.loop-item.inside
                c.in-Some.ensures (λ h. c.if-code-eq-MARKER.false (c.code.ensures ∙ h)) w.if-inside.true c.loop-item.invariant.same);
            few = omega (arith, length-append c.loop-item.kept.items w.octets.result.now, few);
          })
      | else-inside-via-else-inside w ↦
          rw w.kept-is (record {
            same = dte-outside c.args.items.now c.loop-item.left c.next.new.self c.in-Some.item c.loop-item.kept.items c.loop-item.inside
                c.in-Some.ensures (λ h. c.if-code-eq-MARKER.false (c.code.ensures ∙ h)) w.if-inside.false c.loop-item.invariant.same;
            few = c.loop-item.invariant.few;
          })
    ]

pub returns : goal.returns
returns c = dte-end c.args.items.now c.loop-item.left c.loop-item.kept.items c.loop-item.inside c.in_default.ensures.0 c.loop-item.invariant.few c.loop-item.invariant.same
