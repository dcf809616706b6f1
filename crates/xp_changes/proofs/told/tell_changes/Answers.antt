use Rattle.std.proofs.Common.{refl}
use Rattle.xp_changes.proofs.Differing.{by_none}
use Rattle.xp_changes.proofs.told.tell_changes.Goals as goal

pub returns : goal.returns
returns c = by_none c.args.old.now c.args.new c.in-Ok.laid c.in-Ok.ensures.laid (c.in-None.ensures.same refl)
