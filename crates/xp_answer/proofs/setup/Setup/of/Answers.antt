use Rattle.std.proofs.Common.{sym, subst}
use Rattle.xp_answer.proofs.Ready.{indicated_terms}
use Rattle.xp_answer.specs.Terms.{AreTerms}
use Rattle.xp_answer.proofs.setup.Setup.of.Goals as goal

pub returns-clause-terms : goal.returns-clause-terms
returns-clause-terms g c modulus indicates =
    subst (AreTerms modulus) (sym c.indicated_by.ensures) (indicated_terms modulus c.args.ring.now.told indicates)
