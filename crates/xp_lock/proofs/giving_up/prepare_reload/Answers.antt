use Rattle.std.proofs.Common.{◌∙◌}
use Rattle.xp_step.proofs.InForce.{run_frame}
use Rattle.xp_lock.proofs.giving_up.prepare_reload.Goals as goal

pub going-requires : goal.going-requires
going-requires g c = c.in_default.ensures.ok.frame.count ∙ (run_frame c.args.core.now.subs c.args.core.now.history _ c.count-entries.ensures.run).count
