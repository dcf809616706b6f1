use Rattle.std.proofs.Common.{◌++◌, ap, refl, subst, sym, ◌∙◌}
use Rattle.xp_step.specs.InForce.{in_force}
use Rattle.xp_lock.specs.steps.Keeping.{IsKept}
use Rattle.xp_lock.proofs.Fronts.{since}
use Rattle.xp_lock.proofs.Kept.{kept_looked, kept_reloaded}
use Rattle.xp_lock.proofs.Ready.{alike_same}
use Rattle.xp_lock.proofs.Reloads.{reload_entries_are, reload_in_force}
use Rattle.xp_lock.proofs.keeper.Keeper.reload.Goals as goal

pub receive-requires-clause-since : goal.receive-requires-clause-since
receive-requires-clause-since g c =
    let inside = c.self.inside in
    let core = c.prepare_reload.new.core in
    let did = c.bring_into_force-taken.ensures in
    let ready = kept_looked g.N.Name.subs g.N.Name.queues g.N.Name.seats inside.core inside.outboxes.items inside.seats c.self.invariant core inside.outboxes.items
    (record { count = refl; each = λ line. alike_same _ }) c.in_ok-prepared.ensures.rest in
    since _ _ _ _ ready.fronts _ _ (reload_entries_are _ _ _ _ _ did.reloads) _ (ap (λ records. core.given ++ records) c.as_slice.ensures.value ∙ did.each)

pub invariant_of-self-2 : goal.invariant_of-self-2
invariant_of-self-2 g c =
    let inside = c.self.inside in
    let core = c.prepare_reload.new.core in
    let did = c.bring_into_force-taken.ensures in
    let next = c.bring_into_force-taken.new.core in
    let after = c.bring_into_force-taken.new.outboxes.items in
    let ready = kept_looked g.N.Name.subs g.N.Name.queues g.N.Name.seats inside.core inside.outboxes.items inside.seats c.self.invariant core inside.outboxes.items
    (record { count = refl; each = λ line. alike_same _ }) c.in_ok-prepared.ensures.rest in
    subst (λ seats. IsKept g.N.Name.subs g.N.Name.queues g.N.Name.seats next after seats) (sym c.receive.ensures.seats)
    (kept_reloaded g.N.Name.subs g.N.Name.queues g.N.Name.seats core inside.outboxes.items inside.seats ready next after c.args.next c.args.moment _ did.reloads did.kept
    (did.forced ready.forced) did.each)

pub returns-clause-in_force : goal.returns-clause-in_force
returns-clause-in_force g c =
    let inside = c.self.inside in
    let did = c.bring_into_force-taken.ensures in
    let subs = ap (λ e. e.subs) c.in_ok-prepared.ensures.rest ∙ c.self.invariant.subs_are in
    ap (in_force g.N.Name.subs) c.receive.ensures.shown ∙ ap (λ t. in_force t c.bring_into_force-taken.new.core.history) (sym subs) ∙ reload_in_force _ _ _ _ _ did.reloads
