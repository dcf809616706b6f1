use Rattle.xp_subs.proofs.LawLemmas as law
use Rattle.xp_subs.proofs.laws.one_answer.Goals as goal

pub returns : goal.returns
returns c = law.one_answer
