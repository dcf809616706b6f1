use Rattle.std.proofs.Common.{length, refl, subst, ◌∙◌}
use Rattle.xp_core.specs.Reload.{IsRefusal}
use Rattle.xp_step.specs.InForce.{MayFollow, force_of}
use Rattle.xp_core.proofs.GivenUp.{not_refused}
use Rattle.xp_core.proofs.Reloads.{reload_enters}
use Rattle.xp_core.proofs.reload.reload.Goals as goal

pub returns-in-Err-clause-refused : goal.returns-in-Err-clause-refused
returns-in-Err-clause-refused g c =
    let entries = length c.args.journal.now.history in
    let journal = c.args.subs.now.opening.journal in
    subst (λ force. IsRefusal journal entries force c.args.machine.now c.args.next c.in-Err.fault) c.in_force.ensures (c.in-Err.ensures.err journal entries)

pub returns-in-Err-clause-may : goal.returns-in-Err-clause-may
returns-in-Err-clause-may g c may place =
    let entries = length c.args.journal.now.history in
    let journal = c.args.subs.now.opening.journal in
    let force = force_of c.args.subs.now in
    let refused = subst (λ tables. IsRefusal journal entries tables c.args.machine.now c.args.next c.in-Err.fault) c.in_force.ensures (c.in-Err.ensures.err journal entries) in
    absurd (not_refused journal entries force c.args.machine.now c.args.next c.in-Err.fault may place refused)

pub returns-in-Ok-clause-ok : goal.returns-in-Ok-clause-ok
returns-in-Ok-clause-ok g c relays =
    let may = subst (λ force. MayFollow force c.args.machine.now c.args.next) (c.in_force.ensures ∙ c.requires.force) (c.in-Ok.ensures.ok refl) in
    reload_enters c.args.subs.now.opening c.args.machine.now relays c.args.journal.now.history c.args.journal.now.waiting c.args.moment c.args.next
    c.enter_reload-entry.new.journal.history c.enter_reload-entry.new.journal.waiting c.enter_reload-entry.result
    c.enter_reload-entry.ensures.entry may c.requires.some_line c.enter_reload-entry.ensures.history c.enter_reload-entry.ensures.waiting
