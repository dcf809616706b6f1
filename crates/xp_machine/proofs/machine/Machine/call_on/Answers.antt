use Rattle.std.proofs.Common.{rules, ◌≡◌, Some, ap, ◌∙◌, option_map}
use Rattle.std.specs.Option.{option_copied}
use Rattle.slab.specs.Slab.{get}
use Rattle.xp_machine.specs.steps.StoredState.{channel_at}
use Rattle.xp_machine.specs.StoredState.{entry_of, key_of}
use Rattle.xp_machine.specs.World.{call_on}
use Rattle.xp_machine.proofs.Kept.{found_kept}
use Rattle.xp_machine.proofs.machine.Machine.call_on.Goals as goal

pub returns : goal.returns
returns g c =
    let key : key_of (channel_at c.self.inside.lines.items c.args.line).state ≡ Some c.in_ok-call.call = search rules in
    let found : option_copied c.get.result ≡ get c.self.inside.calls c.in_ok-call.call.key = search rules in
    ap (option_map entry_of) found
    ∙ found_kept c.self.inside.lines.items c.self.inside.calls c.self.inside.next c.args.line c.in_ok-call.call c.self.invariant key
    ∙ ap (λ w. call_on w c.args.line) c.self.view_is
