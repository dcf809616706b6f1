use Rattle.xp_facilities.proofs.ReadBack.{read_back}
use Rattle.xp_facilities.proofs.laws.indicated_fields_are_read_back.Goals as goal

pub returns : goal.returns
returns g c = read_back
