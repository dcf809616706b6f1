use Rattle.std.proofs.Common.{ap, ◌≡◌, sym, ◌∙◌, subst, [], length}
use Rattle.std.proofs.lemmas.Bool.{eqb-true, eqb-false}
use Rattle.std.proofs.lemmas.List.{nil_from_length}
use Rattle.xp_facilities.proofs.Reading.{Walk, Walk-more, Walk-end, Walk-fault, first_item-shorter}
use Rattle.xp_facilities.proofs.item.Items.of.Goals as goal

pub returns-in_err-_item : goal.returns-in_err-_item
returns-in_err-_item c =
    rw c.from_residual.ensures
    (Walk-fault c.args.field.now c.loop-rest.rest.now c.loop-rest.invariant c.in_err-_item.ensures
    (λ e. eqb-false _ _ (sym c.is_empty.ensures ∙ c.loop-rest-test.true) (ap length e)))

pub loop-rest-smaller : goal.loop-rest-smaller
loop-rest-smaller c = first_item-shorter _ _ _ c.in_ok-_item.ensures

pub loop-rest-preserved : goal.loop-rest-preserved
loop-rest-preserved c = Walk-more _ _ _ _ c.in_ok-_item.ensures c.loop-rest.invariant

pub invariant_of-result : goal.invariant_of-result
invariant_of-result c =
    let none : c.loop-rest.rest.now ≡ [] = nil_from_length c.loop-rest.rest.now (eqb-true _ _ (sym c.is_empty.ensures ∙ c.loop-rest-test.false)) in
    Walk-end c.args.field.now (subst (λ x. Walk c.args.field.now x) none c.loop-rest.invariant)

pub returns : goal.returns
returns c = invariant_of-result c
