use Rattle.xp_step.specs.declared.outcome.Outcome.TheVariants.{Exceeded}
use Rattle.xp_step.specs.EventLine.{event_line_context}
use Rattle.xp_step.proofs.Clearings.{quiet_otherwise, settled_otherwise}
use Rattle.xp_step.proofs.plan.clearing.exceed.Goals as goal

pub returns-clause-planned : goal.returns-clause-planned
returns-clause-planned g c before found =
    let at = event_line_context c.args.found.now before in
    let plain = c.in_ok-plan.ensures before found in (
      quiet_otherwise c.in_ok-plan.plan Exceeded c.settling.result at _ _ c.settling.ensures plain,
      settled_otherwise c.in_ok-plan.plan Exceeded c.settling.result at _ _ c.settling.ensures plain,
    )
