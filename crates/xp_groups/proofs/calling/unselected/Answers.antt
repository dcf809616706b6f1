use Rattle.std.proofs.Common.{rules, refl}
use Rattle.xp_groups.proofs.Answered.{prefers}
use Rattle.xp_groups.proofs.calling.unselected.Goals as goal

pub returns-in-Some : goal.returns-in-Some
returns-in-Some c = prefers _ c.in-Some.held _ _ refl c.requires (cc) (search rules) c.within.ensures
