use Rattle.csv.proofs.RoundTrip.{read-write}
use Rattle.xp_cdr.specs.Details.{detail_fields, detail_text}
use Rattle.xp_cdr.proofs.laws.details_are_read_back.Goals as goal

pub returns : goal.returns
unfolding detail_text
returns c = λ run call rest. read-write (detail_fields run call) rest
