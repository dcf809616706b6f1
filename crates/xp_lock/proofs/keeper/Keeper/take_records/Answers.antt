use Rattle.std.proofs.Common.{◌++◌, ap, refl, subst, sym, ◌∙◌}
use Rattle.xp_lock.specs.steps.Keeping.{IsKept}
use Rattle.xp_lock.proofs.Kept.{kept_recorded}
use Rattle.xp_lock.proofs.keeper.Keeper.take_records.Goals as goal

pub invariant_of-self-2 : goal.invariant_of-self-2
invariant_of-self-2 g c =
    let inside = c.self.inside in
    let taken = c.in_ok-taken.ensures in
    let next = c.take_records.new.self in
    subst (λ seats. IsKept g.N.Name.subs g.N.Name.queues g.N.Name.seats next inside.outboxes.items seats) (sym c.receive.ensures.seats)
    (kept_recorded g.N.Name.subs g.N.Name.queues g.N.Name.seats inside.core inside.outboxes.items inside.seats c.self.invariant next inside.outboxes.items taken.ok refl
    (ap (λ more. inside.core.given ++ more) (sym taken.taken) ∙ taken.each))
