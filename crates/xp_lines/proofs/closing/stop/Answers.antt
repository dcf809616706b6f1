use Rattle.std.proofs.Common.{◌≡◌, ap, refl, None, Some, subst, sym}
use Rattle.xp_step.specs.declared.event.What.TheVariants.{Down}
use Rattle.xp_lines.specs.declared.line.EndReason.TheVariants as reasons
use Rattle.xp_lines.specs.declared.line_state.LineState.TheVariants as states
use Rattle.xp_lines.specs.steps.Offering.{Tells}
use Rattle.xp_lines.specs.steps.Serving.{GoesOnTo}
use Rattle.xp_lines.proofs.Serving.{so_closes, so_stops}
use Rattle.xp_lines.proofs.Sessions.{goes_not}
use Rattle.xp_lines.proofs.closing.stop.Goals as goal

pub returns-in_default : goal.returns-in_default
returns-in_default g c =
    subst (λ session. GoesOnTo g.N.Name.subs g.L.Link.pushed g.L.Link.pulled session c.args.seat.now.pass (states.Ended reasons.Stopped) c.args.seat.now.pass) (sym c.in_default.is)
    (so_closes g.N.Name.subs g.L.Link.pushed g.L.Link.pulled None c.args.seat.now.pass reasons.Stopped c.args.seat.now.pass refl refl)

pub returns-in-Ok : goal.returns-in-Ok
returns-in-Ok g c =
    let tells = subst (λ what. Tells c.args.seat.now.pass what c.offer.result c.offer.new.self.pass) c.down.ensures c.offer.ensures.tells in
    let gains = subst (λ result. Tells c.args.seat.now.pass Down result c.offer.new.self.pass) c.in-Ok.is tells in
    subst (λ session. GoesOnTo g.N.Name.subs g.L.Link.pushed g.L.Link.pulled session c.args.seat.now.pass (states.Stopped c.in-Some.linked) c.offer.new.self.pass) (sym c.in-Some.is)
    (so_stops g.N.Name.subs g.L.Link.pushed g.L.Link.pulled c.in-Some.linked c.args.seat.now.pass c.offer.new.self.pass gains gains.line)

pub returns-in-Err-Halted : goal.returns-in-Err-Halted
returns-in-Err-Halted g c =
    let same = c.in-Err-Halted.ensures.tells.1 in
    let not_stopped : reasons.Halted ≡ reasons.Stopped → ⊥ = λ stopped. cc in
    subst (λ session. GoesOnTo g.N.Name.subs g.L.Link.pushed g.L.Link.pulled session c.args.seat.now.pass (states.Ended reasons.Halted) c.offer.new.self.pass) (sym c.in-Some.is)
    (so_closes g.N.Name.subs g.L.Link.pushed g.L.Link.pulled (Some c.in-Some.linked) c.args.seat.now.pass reasons.Halted c.offer.new.self.pass
    (goes_not c.args.seat.now.pass reasons.Halted c.offer.new.self.pass same not_stopped) (ap (λ pass. pass.line) same))

pub returns-in-Err-Journal : goal.returns-in-Err-Journal
returns-in-Err-Journal g c =
    let same = c.in-Err-Journal.ensures.tells.1 in
    let not_stopped : reasons.Journal ≡ reasons.Stopped → ⊥ = λ stopped. cc in
    subst (λ session. GoesOnTo g.N.Name.subs g.L.Link.pushed g.L.Link.pulled session c.args.seat.now.pass (states.Ended reasons.Journal) c.offer.new.self.pass) (sym c.in-Some.is)
    (so_closes g.N.Name.subs g.L.Link.pushed g.L.Link.pulled (Some c.in-Some.linked) c.args.seat.now.pass reasons.Journal c.offer.new.self.pass
    (goes_not c.args.seat.now.pass reasons.Journal c.offer.new.self.pass same not_stopped) (ap (λ pass. pass.line) same))
