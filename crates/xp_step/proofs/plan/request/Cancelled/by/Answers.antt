use Rattle.xp_step.specs.EventLine.{event_line_context}
use Rattle.xp_step.proofs.Leaving.{not_in_call}
use Rattle.xp_step.proofs.Plans.{none_cancelled}
use Rattle.xp_step.proofs.plan.request.Cancelled.by.Goals as goal

pub returns-in-None : goal.returns-in-None
returns-in-None g c before found =
    let at = event_line_context c.args.found.now before in
    none_cancelled c.none.result at c.none.ensures (not_in_call at c.args.found.now.charged found c.in-None.is)
