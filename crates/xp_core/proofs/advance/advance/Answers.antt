use Rattle.std.proofs.Common.{◌≡◌, ◌∙◌, List, ◌∷◌, [], ◌++◌, ap, arith, subst, sym}
use Rattle.xp_subs.specs.Tables.{Tables}
use Rattle.xp_step.specs.InForce.{Brings, brought_by, force_of}
use Rattle.xp_step.proofs.InForce.{brings_again}
use Rattle.xp_core.specs.steps.Journal.{next_entry}
use Rattle.xp_core.proofs.Showing.{enters}
use Rattle.xp_core.proofs.advance.advance.Goals as goal

pub returns-in-Ok-clause-ok : goal.returns-in-Ok-clause-ok
returns-in-Ok-clause-ok g c =
    let before = c.args.journal.now.history in
    let grown : c.enter.new.self.history ≡ before ++ c.enter.result ∷ [] =
    c.enter.ensures.history ∙ ap (λ h. h ++ c.enter.result ∷ []) c.in-Ok.ensures.history in
    enters c.args.subs.now.opening c.args.machine.now c.args.relays.now before c.args.journal.now.waiting c.args.event c.in-Ok.work
    c.prepare_entry.new.machine c.prepare_entry.new.relays c.enter.new.self.history c.enter.new.self.waiting c.enter.result c.enter.result.tables
    c.in-Ok.ensures.ok (c.enter.ensures.entry ∙ ap (λ h. next_entry h c.args.event c.in-Ok.work c.enter.result.tables) c.in-Ok.ensures.history)
    (let force = c.args.subs.now in
    let B : Tables → List Tables → Type 0 = λ t brought. Brings t c.args.machine.now c.args.event.what brought in
    let again : B (force_of force) (brought_by c.args.event.what (force_of force)) = brings_again (force_of force) c.args.machine.now c.args.event.what c.requires.sound_now in
    let brought : c.enter.result.tables.items ≡ brought_by c.args.event.what (force_of force) = c.enter.ensures.brought ∙ ap (brought_by c.args.event.what) c.in_force.ensures in
    subst (λ t. B t c.enter.result.tables.items) c.requires.force (subst (B (force_of force)) (sym brought) again))
    (omega (arith, c.requires.line, c.requires.sound.lines)) grown
    (c.enter.ensures.waiting ∙ ap (λ r. r ++ c.in-Ok.work.records.items) c.in-Ok.ensures.waiting)

pub returns-in-Ok-clause-brought : goal.returns-in-Ok-clause-brought
returns-in-Ok-clause-brought g c = c.enter.ensures.brought ∙ ap (brought_by c.args.event.what) c.in_force.ensures
