use Rattle.std.proofs.Common.{refl}
use Rattle.xp_channel.specs.declared.action.Action.TheVariants.{Collision}
use Rattle.xp_step.specs.Acts.{outputs_of_cancel}
use Rattle.xp_step.specs.Effects.{cancels}
use Rattle.xp_step.specs.steps.ReceivedPackets.{request_of}
use Rattle.xp_step.specs.EventLine.{event_line_context}
use Rattle.xp_machine.specs.World.{call_on}
use Rattle.xp_step.proofs.Events.{no_collision_planned, collision_planned}
use Rattle.xp_step.proofs.plan.event.collision.Goals as goal

pub returns-in-Some : goal.returns-in-Some
returns-in-Some g c before tables found =
    let at = event_line_context c.args.found.now before in
    collision_planned at c.args.what.now Collision c.request.result (request_of c.in-Some.call) refl c.in-Some.ensures
    (c.request.ensures before (cancels at.line (call_on at.world at.line)) (outputs_of_cancel at.world at.line) tables (c.by.ensures before found))

pub returns-in-None : goal.returns-in-None
returns-in-None g c before tables found = no_collision_planned (event_line_context c.args.found.now before) c.args.what.now Collision c.nothing.result c.in-None.ensures (c.nothing.ensures before)
