use Rattle.std.proofs.Common.{Err, refl, sym, ◌∙◌, subst, rules}
use Rattle.std.proofs.lemmas.Result.{err_from_is_err_and}
use Rattle.xp_facilities.specs.Requested.{Means, Parses}
use Rattle.xp_answer.proofs.Tellable.{faulty_declines}
use Rattle.xp_answer.specs.Answered as answered
use Rattle.xp_answer.proofs.answer.accept.Goals as goal

pub returns-then-not-may_carry : goal.returns-then-not-may_carry
returns-then-not-may_carry g c =
    let means = subst (λ field. Means field c.in_ok-asked.asked) c.facilities_in.ensures c.in_ok-asked.ensures in
    answered.user_data c.in_ok-asked.asked (search rules) means (c.may_carry.ensures.may_not c.if-not-may_carry.true) refl

pub returns-then-not-are_offered : goal.returns-then-not-are_offered
returns-then-not-are_offered g c =
    let means = subst (λ field. Means field c.in_ok-asked.asked) c.facilities_in.ensures c.in_ok-asked.ensures in
    answered.not_offered c.in_ok-asked.asked (search rules) means (c.may_carry.ensures.may c.if-not-may_carry.false) (sym c.are_offered.ensures ∙ c.if-not-are_offered.true) refl

pub returns-in_err-asked : goal.returns-in_err-asked
returns-in_err-asked g c =
    let p = err_from_is_err_and c.from_residual.result c.from_residual.ensures.1 in
    let parses = subst (λ field. Parses field (Err c.in_err-asked.field-0.0)) c.facilities_in.ensures c.in_err-asked.ensures in
    rw (p.1, p.2) (faulty_declines _ c.args.setup.now c.args.block.now c.in_err-asked.field-0.0 (search rules) parses)
