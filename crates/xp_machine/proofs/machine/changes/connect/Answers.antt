use Rattle.std.proofs.Common.{rules, ◌≡◌, Some}
use Rattle.xp_machine.specs.steps.StoredState.{channel_at}
use Rattle.xp_machine.specs.StoredState.{key_of}
use Rattle.xp_machine.proofs.Kept.{accepted_kept, accepted_keyed}
use Rattle.xp_machine.proofs.machine.changes.connect.Goals as goal

pub returns-in-Some-clause-keyed : goal.returns-in-Some-clause-keyed
returns-in-Some-clause-keyed g c =
    let key : key_of (channel_at c.args.lines.now.items c.args.line).state ≡ Some c.in-Some.call = search rules in
    accepted_keyed c.args.lines.now.items c.args.calls.now 0 c.requires c.args.line c.in-Some.call key c.args.agreement _ _ c.accept_call.ensures

pub returns-in-Some-clause-connected : goal.returns-in-Some-clause-connected
returns-in-Some-clause-connected g c = λ next.
    let key : key_of (channel_at c.args.lines.now.items c.args.line).state ≡ Some c.in-Some.call = search rules in
    accepted_kept c.args.lines.now.items c.args.calls.now next c.requires c.args.line c.in-Some.call key c.args.agreement _ _ c.accept_call.ensures
