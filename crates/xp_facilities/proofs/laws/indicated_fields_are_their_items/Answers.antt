use Rattle.xp_facilities.proofs.Bounds.{told_field}
use Rattle.xp_facilities.proofs.laws.indicated_fields_are_their_items.Goals as goal

pub returns : goal.returns
returns g c = told_field
