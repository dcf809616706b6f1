use Rattle.std.proofs.Common.{rules, ◌≡◌, None, Some, ap, set, ◌∙◌}
use Rattle.xp_machine.specs.steps.StoredState.{channel_at}
use Rattle.xp_machine.specs.StoredState.{key_of, no_call_state_of, stored_world}
use Rattle.xp_machine.proofs.Kept.{ended_kept, ended_keyed, out_kept}
use Rattle.xp_machine.proofs.machine.changes.leave.Goals as goal

pub returns-in-None-clause-left : goal.returns-in-None-clause-left
returns-in-None-clause-left g c = λ next.
    let none : key_of (channel_at c.args.lines.now.items c.args.line).state ≡ None = search rules in
    let becomes : c.moved.result ≡ record (channel_at c.args.lines.now.items c.args.line) { state = c.state.result } = search rules in
    ap (λ ls. stored_world ls c.args.calls.now next) (c.set_line.ensures ∙ ap (set c.args.lines.now.items c.args.line) becomes)
    ∙ out_kept c.args.lines.now.items c.args.calls.now next c.args.line none c.state.result (no_call_state_of c.args.way) c.state.ensures.state

pub returns-in-Some-clause-keyed : goal.returns-in-Some-clause-keyed
returns-in-Some-clause-keyed g c =
    let key : key_of (channel_at c.args.lines.now.items c.args.line).state ≡ Some c.in-Some.call = search rules in
    ended_keyed c.args.lines.now.items c.args.calls.now 0 c.requires c.args.line c.in-Some.call key _ _ _ c.end_call.ensures c.state-in-Some.ensures.out

pub returns-in-Some-clause-left : goal.returns-in-Some-clause-left
returns-in-Some-clause-left g c = λ next.
    let key : key_of (channel_at c.args.lines.now.items c.args.line).state ≡ Some c.in-Some.call = search rules in
    ended_kept c.args.lines.now.items c.args.calls.now next c.requires c.args.line c.in-Some.call key _ _ _ c.end_call.ensures c.state-in-Some.ensures.out
    (no_call_state_of c.args.way) c.state-in-Some.ensures.state
