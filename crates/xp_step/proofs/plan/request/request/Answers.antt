use Rattle.xp_step.specs.steps.ReceivedPackets.{request_of}
use Rattle.xp_step.specs.EventLine.{event_line_context}
use Rattle.xp_step.proofs.Requests.{put_through, turned_down}
use Rattle.xp_step.proofs.plan.request.request.Goals as goal

pub returns-in_ok-records-in-Refuse : goal.returns-in_ok-records-in-Refuse
returns-in_ok-records-in-Refuse g c before ended far tables ends =
    turned_down (event_line_context c.args.found.now before) (request_of c.args.request.now) ended far c.refused.result c.in_ok-why.field-0 c.args.found.now.in_force.now tables c.in_ok-why.ensures.decided
    c.in-Refuse.why c.in-Refuse.is c.refused.ensures.outcome c.refused.ensures.quiet (c.refused.ensures.planned before ended far ends)

pub returns-in_ok-packet-in-Take : goal.returns-in_ok-packet-in-Take
returns-in_ok-packet-in-Take g c before ended far tables ends =
    put_through (event_line_context c.args.found.now before) (request_of c.args.request.now) ended far c.put.result c.in_ok-why.field-0 c.args.found.now.in_force.now tables c.in_ok-why.ensures.decided
    c.in-Take.ring c.address_of-called.result.now c.address_of-calling.result.now c.in_ok-packet-in-Take.packet c.of-setup.result c.in-Take.is
    c.address_of-called.ensures c.address_of-calling.ensures c.in_ok-packet-in-Take.ensures.put c.of-setup.ensures.kept
    c.put.ensures.outcome c.put.ensures.quiet (c.put.ensures.planned before ended far ends)
