use Rattle.std.proofs.Common.{rules, ◌≡◌, ◌∙◌, None, Some, ap, subst}
use Rattle.xp_packets.specs.declared.end.End.{End}
use Rattle.xp_relay.specs.Coupled.{state_at}
use Rattle.xp_step.specs.Exchange.{world_of}
use Rattle.xp_machine.specs.Relays.{relay_under}
use Rattle.xp_core.specs.View.{flow_at}
use Rattle.xp_core.proofs.Flows.{connected, never_lost}
use Rattle.xp_core.proofs.exchange.Core.flow.Goals as goal

pub returns-in_err-metered : goal.returns-in_err-metered
returns-in_err-metered g c =
    let call = c.in_ok-call.call.now in
    let agreed : Some c.in_ok-_agreement._agreement ≡ call.agreed = search rules in
    let none : None ≡ relay_under c.self.inside.relays call.caller = search rules in
    absurd (never_lost c.self.inside.subs.opening c.self.inside.journal.history c.self.inside.machine c.args.line call c.in_ok-call.ensures
    c.in_ok-_agreement._agreement agreed c.self.inside.relays c.self.invariant.core.carried none)

pub returns : goal.returns
returns g c =
    let call = c.in_ok-call.call.now in
    let agreed : Some c.in_ok-_agreement._agreement ≡ call.agreed = search rules in
    let under : Some c.in_ok-metered.metered.now ≡ relay_under c.self.inside.relays call.caller = search rules in
    connected c.self.inside.subs.opening c.self.inside.journal.history c.self.inside.machine c.args.line call c.in_ok-call.ensures
    c.in_ok-_agreement._agreement agreed c.self.inside.relays c.self.invariant.core.carried c.in_ok-metered.metered.now c.state.result under
    (λ shown shows. let P : End → Type 0 = λ e. c.state.result ≡ state_at e shown in subst P c.end_of.ensures (c.state.ensures shown shows))
    ∙ ap (λ w. flow_at c.self.inside.subs.opening c.self.inside.journal.history w c.args.line) c.self.invariant.core.shown
    ∙ ap (λ e. flow_at e.subs e.history (world_of e) c.args.line) c.self.view_is
