use Rattle.std.proofs.Common.{[], ap, inr, refl, subst, ◌∙◌}
use Rattle.std.proofs.lemmas.Result.{err_from_is_err_and}
use Rattle.xp_lines.specs.AnswerTimer.{answered}
use Rattle.xp_lines.specs.FrameEvents.{AreReadAs}
use Rattle.xp_lines.proofs.Offered.{gains_nothing, offers_front, offers_nothing, sent_is}
use Rattle.xp_lines.proofs.Worked.{both_ways}
use Rattle.xp_lines.proofs.session.Session.offer_waiting.Goals as goal

pub returns-in_default-clause-offers : goal.returns-in_default-clause-offers
returns-in_default-clause-offers g c = ([], gains_nothing _, offers_nothing _ _ _, λ is. both_ways _ refl is)

pub returns-in_default-clause-refused : goal.returns-in_default-clause-refused
returns-in_default-clause-refused g c = inr refl

pub returns-in_default-clause-all : goal.returns-in_default-clause-all
returns-in_default-clause-all g c = λ is. both_ways _ refl is

pub returns-in_err-offer_all-clause-offers : goal.returns-in_err-offer_all-clause-offers
returns-in_err-offer_all-clause-offers g c =
    let front = c.in_err-offer_all.ensures in
    let read = subst (λ m. AreReadAs m c.args.self.now.frames.waiting c.in-Ok.ready.items) c.modulus-modulus.ensures c.in-Ok.ensures.read in
    let p = err_from_is_err_and c.from_residual.result c.from_residual.ensures.1 in
    rw p.1 (front.whats, front.gains, offers_front _ _ _ _ _ _ _ read c.in-Ok.ensures.all front, λ is. both_ways _ refl is)

pub returns-clause-offers : goal.returns-clause-offers
returns-clause-offers g c =
    let front = c.in_ok-offer_all.ensures in
    let read = subst (λ m. AreReadAs m c.args.self.now.frames.waiting c.in-Ok.ready.items) c.modulus-modulus.ensures c.in-Ok.ensures.read in (
      front.whats,
      front.gains,
      offers_front _ _ _ _ _ _ _ read c.in-Ok.ensures.all front,
      λ _. c.answered-self.ensures ∙ ap (λ sent. answered sent c.args.self.now.unanswered_since) (sent_is _ _ _ _ _ front c.is_any-sent.ensures refl),
    )

pub returns-clause-all : goal.returns-clause-all
returns-clause-all g c = λ _. c.in-Ok.ensures.all
