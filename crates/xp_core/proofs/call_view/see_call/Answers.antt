use Rattle.std.proofs.Common.{◌≡◌, ◌∙◌, Some, ap, rules, subst}
use Rattle.xp_core.proofs.Seen.{seen_in_call, seen_in_none, shown_of}
use Rattle.xp_step.specs.StepContext.{step_context}
use Rattle.xp_step.specs.EventLine.{IsMeteredCall}
use Rattle.xp_core.proofs.call_view.see_call.Goals as goal

pub returns-in_default : goal.returns-in_default
returns-in_default g c =
    let at = step_context c.args.subs.now c.args.before.now.items c.args.machine.now c.args.line 0 in
    seen_in_none c.args.subs.now c.args.before.now.items c.args.machine.now c.args.line 0
    (subst (IsMeteredCall at) c.in_default.is (c.charged_on.ensures.charged 0))

pub returns : goal.returns
returns g c =
    let at = step_context c.args.subs.now c.args.before.now.items c.args.machine.now c.args.line 0 in
    let found = c.in-Some.field-0 in
    let is = subst (IsMeteredCall at) c.in-Some.is (c.charged_on.ensures.charged 0) in
    let received : c.counts_for-from_called.result.1 ≡ found.meter.from_caller = search rules in
    let sent : c.counts_for-from_called.result.0 ≡ found.meter.from_called = search rules in
    ap (λ dialled. Some (record (shown_of found.call.now (record found.meter { from_caller = c.counts_for-from_called.result.1; from_called = c.counts_for-from_called.result.0 })) { dialled = dialled; connected = c.connected_at.result })) c.copy.ensures
    ∙ ap (λ connected. Some (record (shown_of found.call.now (record found.meter { from_caller = c.counts_for-from_called.result.1; from_called = c.counts_for-from_called.result.0 })) { connected = connected })) c.connected_at.ensures
    ∙ ap (λ counted. Some (shown_of found.call.now (record found.meter { from_caller = counted; from_called = c.counts_for-from_called.result.0 }))) received
    ∙ ap (λ counted. Some (shown_of found.call.now (record found.meter { from_called = counted }))) sent
    ∙ seen_in_call c.args.subs.now c.args.before.now.items c.args.machine.now c.args.line 0 found is
