use Rattle.std.proofs.Common.{subst, sym}
use Rattle.xp_lines.specs.steps.Offering.{Tells}
use Rattle.xp_lines.specs.steps.Sessions.{Closes, here}
use Rattle.xp_lines.proofs.Sessions.{goes_down, goes_not, drops_nothing}
use Rattle.xp_lines.proofs.closing.close.Goals as goal

pub returns-in-Ok-clause-closes : goal.returns-in-Ok-clause-closes
returns-in-Ok-clause-closes g c =
    let tells = subst (λ what. Tells c.args.seat.now.pass what c.offer.result c.offer.new.self.pass) c.down.ensures c.offer.ensures.tells in
    let told = subst (λ result. Tells c.args.seat.now.pass _ result c.offer.new.self.pass) c.in-Ok.is tells in
    subst (λ session. Closes (here g.L.Link.pushed g.L.Link.pulled session) c.args.why c.args.seat.now.pass c.offer.new.self.pass) (sym c.in-Some.is)
    (goes_down c.args.seat.now.pass c.offer.new.self.pass c.args.why c.offer.new.self.pass told (drops_nothing c.offer.new.self.pass))

pub returns-clause-closes : goal.returns-clause-closes
returns-clause-closes g c =
    subst (λ session. Closes (here g.L.Link.pushed g.L.Link.pulled session) c.why_without_down.result c.args.seat.now.pass c.offer.new.self.pass) (sym c.in-Some.is)
    (goes_not c.args.seat.now.pass c.why_without_down.result c.offer.new.self.pass c.in-Err.ensures.tells.1 c.why_without_down.ensures)
