use Rattle.xp_cdr.proofs.RecordLemmas.{are_record_texts}
use Rattle.xp_cdr.proofs.laws.lines_are_record_texts.Goals as goal

pub returns : goal.returns
returns c = λ tables by ended. are_record_texts tables by ended
