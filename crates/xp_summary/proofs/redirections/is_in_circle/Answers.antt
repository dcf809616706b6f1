use Rattle.std.proofs.Common.{sym}
use Rattle.xp_summary.proofs.RedirectionLemmas.{never_back}
use Rattle.xp_summary.proofs.redirections.is_in_circle.Goals as goal

pub returns-in-None : goal.returns-in-None
returns-in-None c = (
  λ h. cc,
  λ circle. absurd (never_back c.args.subs.now c.args.station c.loop-step._step c.loop-step.reached c.loop-step.invariant.0 (sym c.in-None.ensures.next) c.loop-step.invariant.2 circle.0 circle.2),
)
