use Rattle.xp_facilities.proofs.OneReading.{one_reading}
use Rattle.xp_facilities.proofs.laws.every_field_has_one_reading.Goals as goal

pub returns : goal.returns
returns g c = one_reading
