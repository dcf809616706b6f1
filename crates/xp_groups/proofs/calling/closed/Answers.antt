use Rattle.std.proofs.Common.{rules, refl}
use Rattle.xp_groups.specs.Intends.{closed, closed_barred, closed_not_known}
use Rattle.xp_groups.proofs.calling.closed.Goals as goal

pub returns-in-Some : goal.returns-in-Some
returns-in-Some c = closed_barred c.args.index c.in-Some.held c.requires refl (cc) c.if-held.true refl

pub returns-in-Some-2 : goal.returns-in-Some-2
returns-in-Some-2 c = closed c.args.index c.in-Some.held c.requires refl (cc) (search rules) (search rules)

pub returns-in-None : goal.returns-in-None
returns-in-None c = closed_not_known c.args.index c.requires refl (cc) refl
