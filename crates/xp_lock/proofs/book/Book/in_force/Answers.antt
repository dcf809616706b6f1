use Rattle.std.proofs.Common.{subst, sym}
use Rattle.xp_reload.specs.Frame.{IsSameFrame}
use Rattle.xp_step.specs.Worlds.{world_after}
use Rattle.xp_step.proofs.InForce.{run_frame}
use Rattle.xp_lock.proofs.book.Book.in_force.Goals as goal

pub returns-clause-frame : goal.returns-clause-frame
returns-clause-frame g c =
    let inside = c.self.inside.core in
    let same = subst (IsSameFrame inside.subs) (sym c.in_force.ensures) (run_frame inside.subs inside.history (world_after inside.subs inside.history) c.count.ensures.run) in
    subst (λ book. IsSameFrame book.subs c.in_force.result.now) c.self.view_is same
