use Rattle.std.proofs.Common.{◌≡◌, None, rules}
use Rattle.xp_core.proofs.Going.{may_replace}
use Rattle.xp_core.proofs.reload.may_replace.Goals as goal

pub returns-in-None-clause-ok : goal.returns-in-None-clause-ok
returns-in-None-clause-ok g c ok =
    let kept : c.frame_change.result ≡ None = search rules in
    let still : c.line_moved_in_call.result ≡ None = search rules in
    may_replace c.args.force.now c.args.machine.now c.args.next.now c.counts-sound.ensures.sound (c.frame_change.ensures.same kept) (c.line_moved_in_call.ensures.none still)
