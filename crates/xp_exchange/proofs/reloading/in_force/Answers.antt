use Rattle.std.proofs.Common.{subst, sym}
use Rattle.xp_reload.specs.Frame.{IsSameFrame}
use Rattle.xp_step.proofs.InForce.{run_frame}
use Rattle.xp_step.specs.Exchange.{world_of}
use Rattle.xp_exchange.proofs.reloading.in_force.Goals as goal

pub returns-clause-frame : goal.returns-clause-frame
returns-clause-frame g c =
    subst (IsSameFrame c.args.core.now.subs) (sym c.in_force.ensures)
    (run_frame c.args.core.now.subs c.args.core.now.history (world_of c.args.core.now) c.count.ensures.run)
