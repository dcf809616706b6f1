use Rattle.xp_cdr.proofs.PlainLemmas.{are_joined}
use Rattle.xp_cdr.proofs.laws.details_need_no_quotes.Goals as goal

pub returns : goal.returns
returns c = are_joined
