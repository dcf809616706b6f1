use Rattle.std.proofs.Common.{Some, subst, sym}
use Rattle.std.specs.Net.Socket.{socket_ip}
use Rattle.xp_door.specs.Choices.{IsChoice, IsFirstFree}
use Rattle.xp_door.specs.declared.choosing.Choice.TheVariants.{Line}
use Rattle.xp_door.specs.steps.Choices.{IsGiven}
use Rattle.xp_door.proofs.lines_behind.LinesBehind.choice_of.Goals as goal

pub returns-in-Some : goal.returns-in-Some
returns-in-Some c =
    let candidates = c.args.self.now.candidates.items in
    let choice = c.choose.result in
    let chosen = subst (λ candidates. IsChoice c.in-Some.call candidates choice) c.as_slice-candidates.ensures.value c.choose.ensures in
    subst (λ call. IsGiven (socket_ip c.args.arrival.now.peer) call candidates choice) (sym c.in-Some.is) chosen

pub returns-in-Some-line_for : goal.returns-in-Some-line_for
returns-in-Some-line_for c =
    let candidates = c.args.self.now.candidates.items in
    let place = c.in-Some-line_for.place in
    let first = subst (λ candidates. IsFirstFree c.ip.result candidates (Some place)) c.as_slice-candidates.ensures.value c.in-Some-line_for.ensures in
    let free = subst (λ peer. IsFirstFree peer candidates (Some place)) c.ip.ensures first in
    subst (λ call. IsGiven (socket_ip c.args.arrival.now.peer) call candidates (Line place)) (sym c.in-None.is) free
