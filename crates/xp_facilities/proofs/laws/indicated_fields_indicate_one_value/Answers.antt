use Rattle.xp_facilities.proofs.OneTold.{one_told}
use Rattle.xp_facilities.proofs.laws.indicated_fields_indicate_one_value.Goals as goal

pub returns : goal.returns
returns g c = one_told
