use Rattle.std.proofs.Common.{[], refl}
use Rattle.xp_channel.specs.declared.action.Action.TheVariants.{NewCall}
use Rattle.xp_step.specs.steps.ReceivedPackets.{request_of}
use Rattle.xp_step.specs.EventLine.{event_line_context}
use Rattle.xp_step.proofs.Events.{no_request_planned, request_planned}
use Rattle.xp_step.proofs.plan.event.new_call.Goals as goal

pub returns-in-Some : goal.returns-in-Some
returns-in-Some g c before tables =
    let at = event_line_context c.args.found.now before in
    request_planned at c.args.what.now NewCall c.request.result (request_of c.in-Some.call) refl c.in-Some.ensures (c.request.ensures before [] [] tables (c.none.ensures at))

pub returns-in-None : goal.returns-in-None
returns-in-None g c before tables = no_request_planned (event_line_context c.args.found.now before) c.args.what.now NewCall c.nothing.result c.in-None.ensures (c.nothing.ensures before)
