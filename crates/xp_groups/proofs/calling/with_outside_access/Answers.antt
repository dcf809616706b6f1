use Rattle.std.proofs.Common.{rules, refl}
use Rattle.xp_groups.specs.Intends.{no_outgoing_access, with_outside_access_not_known, with_outside_access_barred, with_outside_access}
use Rattle.xp_groups.proofs.calling.with_outside_access.Goals as goal

pub returns-then-not-station : goal.returns-then-not-station
returns-then-not-station c = no_outgoing_access c.args.index c.requires refl c.if-not-station.true refl

pub returns-in-Some : goal.returns-in-Some
returns-in-Some c = with_outside_access_barred c.args.index c.in-Some.held c.requires refl (search rules) (cc) c.if-held.true refl

pub returns-in-Some-2 : goal.returns-in-Some-2
returns-in-Some-2 c = with_outside_access c.args.index c.in-Some.held c.requires refl (search rules) (cc) (search rules) (search rules)

pub returns-in-None : goal.returns-in-None
returns-in-None c = with_outside_access_not_known c.args.index c.requires refl (search rules) (cc) refl
