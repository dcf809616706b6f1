use Rattle.std.proofs.Common.{rules, ℕ, Ok, ap, refl, sym, subst, ◌∙◌}
use Rattle.xp_answer.specs.Answered.{IfConnected}
use Rattle.xp_answer.specs.Terms.{AreSettled, AreTerms}
use Rattle.xp_answer.specs.declared.answer.Answer.{Answer}
use Rattle.xp_channel.specs.declared.action.Action.TheVariants.{Answer as Accepted}
use Rattle.xp_charge.specs.Meter.{opening}
use Rattle.xp_relay.specs.Coupled.{coupled}
use Rattle.xp_relay.specs.StoredCoupled.{RepresentsCall}
use Rattle.xp_packets.specs.declared.modulus.Modulus.{Modulus}
use Rattle.xp_relay.specs.Terms.{IsWithinTerms}
use Rattle.xp_relay.specs.declared.terms.Terms.{Terms}
use Rattle.xp_step.specs.Acts.{agreement_of}
use Rattle.xp_step.specs.steps.ReceivedPackets.{answer_of}
use Rattle.xp_step.specs.declared.outcome.Outcome.TheVariants.{Declined}
use Rattle.xp_step.specs.RelayedPackets.{relay_terms}
use Rattle.xp_step.specs.EventLine.{event_line_context}
use Rattle.xp_machine.specs.StoredState.{call_of_stored}
use Rattle.xp_step.proofs.Clearings.{called_within, caller_within, carried_otherwise, connected, declined, indicated, not_called, quiet_otherwise, settled_otherwise, settled_within}
use Rattle.xp_step.proofs.Events.{answer_planned, no_answer_planned}
use Rattle.xp_step.proofs.plan.answer.answer.Goals as goal

pub returns-in_default : goal.returns-in_default
returns-in_default g c before tables found =
    no_answer_planned (event_line_context c.args.found.now before) c.args.what.now Accepted c.nothing.result c.in_default.ensures (c.nothing.ensures before)

pub returns-in_default-call_on : goal.returns-in_default-call_on
returns-in_default-call_on g c before tables found =
    let at = event_line_context c.args.found.now before in
    answer_planned {E = ℕ} at c.args.what.now Accepted (Ok c.none.result) (answer_of c.in-Some.accepted) refl c.in-Some.ensures
    (not_called at (answer_of c.in-Some.accepted) c.none.result c.in_default-call_on.ensures (search rules) (search rules) (search rules))

pub examine-requires : goal.examine-requires
examine-requires g c = indicated c.args.found.now.subs.now c.args.found.now.machine.now c.args.found.now.line c.in-Some-call_on.call.now c.in-Some-call_on.ensures c.requires.terms

pub terms_on-requires-clause-caller : goal.terms_on-requires-clause-caller
terms_on-requires-clause-caller g c = caller_within c.args.found.now.subs.now c.args.found.now.machine.now c.args.found.now.line c.in-Some-call_on.call.now c.in-Some-call_on.ensures c.requires.coupled

pub terms_on-requires-clause-called : goal.terms_on-requires-clause-called
terms_on-requires-clause-called g c = called_within c.args.found.now.subs.now c.args.found.now.machine.now c.args.found.now.line c.in-Some-call_on.call.now c.in-Some-call_on.ensures c.requires.coupled

pub opened-requires : goal.opened-requires
opened-requires g c =
    let subs = c.args.found.now.subs.now in
    let call = c.in-Some-call_on.call.now in
    let S : Answer _ → Type 0 = λ a. IfConnected a (λ k. (modulus : Modulus) → AreTerms modulus call.setup.indicated → AreSettled modulus call.setup.indicated k.terms) in
    subst IsWithinTerms (sym (c.terms_on.ensures ∙ ap (relay_terms subs (call_of_stored call)) c.agreement_of-agreement.ensures))
    (settled_within subs c.args.found.now.machine.now c.args.found.now.line call c.in-Some-call_on.ensures c.requires.terms
    (agreement_of c.args.found.now.moment c.in-Connected.connection) (subst S c.in-Connected.is c.in_ok-connection.ensures.settled))

pub returns-in_ok-metered-in-Connected : goal.returns-in_ok-metered-in-Connected
returns-in_ok-metered-in-Connected g c before tables found =
    let at = event_line_context c.args.found.now before in
    answer_planned {E = ℕ} at c.args.what.now Accepted (Ok c.carrying.result) (answer_of c.in-Some.accepted) refl c.in-Some.ensures
    (connected at (answer_of c.in-Some.accepted) c.carrying.result c.in-Some-call_on.call.now c.in-Some-call_on.ensures c.address_of-address.result.now c.args.found.now.in_force.now tables c.address_of-address.ensures
    c.in_ok-connection.field-0 c.in_ok-connection.ensures.answered c.in-Connected.connection c.in-Connected.is (search rules)
    (record {
      metered = c.in_ok-metered-in-Connected.metered;
      kept = ap (λ p. p.relay_update) c.carrying.ensures;
      shows = let P : Terms → Type 0 = λ t. RepresentsCall c.in_ok-metered-in-Connected.metered.relay (coupled t) in (
        subst P (c.terms_on.ensures ∙ ap (relay_terms at.tables (call_of_stored c.in-Some-call_on.call.now)) c.agreement_of-agreement.ensures) c.in_ok-metered-in-Connected.ensures.shows,
        c.in_ok-metered-in-Connected.ensures.meter ∙ c.new-meter.ensures ∙ ap opening c.segment_limit.ensures,
      );
    })
    (carried_otherwise _ _ c.carrying.result at _ _ c.carrying.ensures (c.connect-plan.ensures.planned before (sym c.in-Some-call_on.ensures))))

pub returns-in_ok-plan-in-Refused : goal.returns-in_ok-plan-in-Refused
returns-in_ok-plan-in-Refused g c before tables found =
    let at = event_line_context c.args.found.now before in
    let plain = c.in_ok-plan-in-Refused.ensures before found in
    answer_planned {E = ℕ} at c.args.what.now Accepted (Ok c.settling.result) (answer_of c.in-Some.accepted) refl c.in-Some.ensures
    (declined at (answer_of c.in-Some.accepted) c.settling.result c.in-Some-call_on.call.now c.in-Some-call_on.ensures c.address_of-address.result.now c.args.found.now.in_force.now tables c.address_of-address.ensures
    c.in_ok-connection.field-0 c.in_ok-connection.ensures.answered c.in-Refused.diagnostic c.in-Refused.is (search rules)
    (quiet_otherwise c.in_ok-plan-in-Refused.plan (Declined c.in-Refused.diagnostic) c.settling.result at _ _ c.settling.ensures plain)
    (settled_otherwise c.in_ok-plan-in-Refused.plan (Declined c.in-Refused.diagnostic) c.settling.result at _ _ c.settling.ensures plain))
