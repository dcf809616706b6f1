use Rattle.std.proofs.Common.{ℕ, List, [], ◌∷◌, ◌∙◌, ◌+◌, ◌≤◌, ap, length, refl, sym, subst, Err, arith}
use Rattle.std.specs.Io.KnownBytes.{Appends}
use Rattle.xp_reload.specs.Frame.{IsSameFrame}
use Rattle.xp_step.specs.Stalls.{places_for}
use Rattle.xp_exchange.specs.declared.fault.ReplayFault.TheVariants.{Journal}
use Rattle.xp_exchange.specs.Play.{force_in}
use Rattle.xp_exchange.specs.steps.Acting.{Acted}
use Rattle.xp_exchange.proofs.Force.{brings_nothing, few_places, force_still, lines_kept, writable_kept}
use Rattle.xp_exchange.proofs.Steps.{acted_alike, refused_step, told_step, stopped}
use Rattle.xp_exchange.proofs.acting.act_on.Goals as goal

pub returns-then-count-journal-clause-acted : goal.returns-then-count-journal-clause-acted
returns-then-count-journal-clause-acted g c =
    let old = c.args.core.now in
    stopped old old c.args.event (g.W.Write.contents c.args.writer.now) Journal (omega (arith, c.if-count-journal.true, c.count.ensures.count, c.journal.ensures, ap (λ subs. subs.journal) c.subs.ensures)) refl

pub tell-told-requires-clause-writable : goal.tell-told-requires-clause-writable
tell-told-requires-clause-writable g c =
    writable_kept c.args.core.now.subs c.in_force.result.now _ (subst (λ subs. IsSameFrame subs c.in_force.result.now) c.in-Ok.ensures.ok.subs c.in_force.ensures.frame)
    c.in-Ok.ensures.writable

pub tell-told-requires-clause-lines : goal.tell-told-requires-clause-lines
tell-told-requires-clause-lines g c =
    lines_kept c.args.core.now.subs c.in_force.result.now _ (subst (λ subs. IsSameFrame subs c.in_force.result.now) c.in-Ok.ensures.ok.subs c.in_force.ensures.frame)
    c.in-Ok.ensures.lines

pub returns-in-Ok-clause-acted : goal.returns-in-Ok-clause-acted
returns-in-Ok-clause-acted g c =
    let old = c.args.core.now in
    let room : length old.history + 4 ≤ old.subs.journal =
    omega (arith, c.if-count-journal.false, c.count.ensures.count, c.journal.ensures, ap (λ subs. subs.journal) c.subs.ensures) in
    let plain = c.in-Ok.ensures.brought ∙ brings_nothing c.args.event.what (force_in old) c.requires.comes.1 in
    let same = c.in_force.ensures.force ∙ force_still _ _ _ _ c.in-Ok.ensures.ok plain in
    let told = told_step _ _ _ _ _ _ _ _ c.in-Ok.ensures.ok room same c.tell-told.ensures in
    subst (λ now. (text : List ℕ) × Appends (g.W.Write.contents c.args.writer.now) (g.W.Write.contents c.tell-told.new.writer) text × Acted old (c.args.event ∷ []) c.tell-told.result now text)
    (sym c.drop_records.ensures)
    (subst (λ now. (text : List ℕ) × Appends (g.W.Write.contents c.args.writer.now) (g.W.Write.contents c.tell-told.new.writer) text
    × Acted old (c.args.event ∷ []) c.tell-told.result (record now { given = c.drop_records.new.core.given; waiting = c.drop_records.new.core.waiting }) text)
    (sym c.keep_memory.ensures)
    (told.0, told.1, acted_alike _ _ _ _ _ _ _ told.2))

pub returns-in-Err-clause-acted : goal.returns-in-Err-clause-acted
returns-in-Err-clause-acted g c =
    let old = c.args.core.now in
    let event = c.args.event in
    let room : length old.history + places_for event.what ≤ old.subs.journal =
    omega (arith, c.if-count-journal.false, c.count.ensures.count, c.journal.ensures, ap (λ subs. subs.journal) c.subs.ensures, few_places event.what) in
    let refused = refused_step old event c.in-Err.fault c.reason_of.result c.reason_of.ensures (c.in-Err.ensures.room room) in
    stopped old c.step.new.self event (g.W.Write.contents c.args.writer.now) c.reason_of.result refused c.in-Err.ensures.err
