use Rattle.std.proofs.Common.{inr, refl}
use Rattle.xp_door.proofs.opening.first_in.Goals as goal

pub returns-in-Some : goal.returns-in-Some
returns-in-Some c = inr (c.in-Some.packet, c.next.new.self.waiting, c.in-Some.ensures.0, refl)
