use Rattle.std.proofs.Common.{ap, ◌∙◌}
use Rattle.xp_channel.specs.declared.action.Action.TheVariants.{Answer, Collision, Confirm, NewCall}
use Rattle.xp_machine.specs.Channel.{channel_of}
use Rattle.xp_step.specs.StepContext.{step_context}
use Rattle.xp_step.specs.Table.{action_at, action_in}
use Rattle.xp_step.proofs.Events.{as_acted, error_planned, expired_planned, fall_planned, free_planned, nothing_planned, relayed_planned, rise_planned}
use Rattle.xp_step.proofs.plan.event.plan_of.Goals as goal

pub returns-in-Nothing : goal.returns-in-Nothing
returns-in-Nothing g c = nothing_planned (step_context c.args.subs.now.opening c.args.before.now.items c.args.machine.now c.args.event.now.line c.args.event.now.moment) c.args.event.now.what (action_at c.args.machine.now c.args.event.now) c.nothing.result (c.in-Nothing.ensures ∙ ap (λ state. action_in (channel_of state) c.args.event.now.what) c.line.ensures.state) (c.nothing.ensures c.args.before.now.items)

pub returns-in-Relayed : goal.returns-in-Relayed
returns-in-Relayed g c = relayed_planned (step_context c.args.subs.now.opening c.args.before.now.items c.args.machine.now c.args.event.now.line c.args.event.now.moment) c.args.event.now.what (action_at c.args.machine.now c.args.event.now) c.carry.result (c.in-Relayed.ensures ∙ ap (λ state. action_in (channel_of state) c.args.event.now.what) c.line.ensures.state) (c.carry.ensures c.args.before.now.items (c.charged_on.ensures.charged c.args.event.now.moment) c.requires.carried)

pub returns-in-Rise : goal.returns-in-Rise
returns-in-Rise g c = rise_planned (step_context c.args.subs.now.opening c.args.before.now.items c.args.machine.now c.args.event.now.line c.args.event.now.moment) c.args.event.now.what (action_at c.args.machine.now c.args.event.now) c.rise.result (c.in-Rise.ensures ∙ ap (λ state. action_in (channel_of state) c.args.event.now.what) c.line.ensures.state) (c.rise.ensures c.args.before.now.items)

pub returns-in-Fall : goal.returns-in-Fall
returns-in-Fall g c = fall_planned (step_context c.args.subs.now.opening c.args.before.now.items c.args.machine.now c.args.event.now.line c.args.event.now.moment) c.args.event.now.what (action_at c.args.machine.now c.args.event.now) c.fall.result (c.in-Fall.ensures ∙ ap (λ state. action_in (channel_of state) c.args.event.now.what) c.line.ensures.state) (c.fall.ensures c.args.before.now.items (c.charged_on.ensures.charged c.args.event.now.moment))

pub returns-in-Free : goal.returns-in-Free
returns-in-Free g c = free_planned (step_context c.args.subs.now.opening c.args.before.now.items c.args.machine.now c.args.event.now.line c.args.event.now.moment) c.args.event.now.what (action_at c.args.machine.now c.args.event.now) c.free.result (c.in-Free.ensures ∙ ap (λ state. action_in (channel_of state) c.args.event.now.what) c.line.ensures.state) (c.free.ensures c.args.before.now.items)

pub returns-in-Error : goal.returns-in-Error
returns-in-Error g c = error_planned (step_context c.args.subs.now.opening c.args.before.now.items c.args.machine.now c.args.event.now.line c.args.event.now.moment) c.args.event.now.what (action_at c.args.machine.now c.args.event.now) c.fail.result c.in-Error.diagnostic (c.in-Error.ensures ∙ ap (λ state. action_in (channel_of state) c.args.event.now.what) c.line.ensures.state) (c.fail.ensures c.args.before.now.items (c.charged_on.ensures.charged c.args.event.now.moment))

pub returns-in-Expired : goal.returns-in-Expired
returns-in-Expired g c = expired_planned (step_context c.args.subs.now.opening c.args.before.now.items c.args.machine.now c.args.event.now.line c.args.event.now.moment) c.args.event.now.what (action_at c.args.machine.now c.args.event.now) c.fail-in-Expired.result (c.in-Expired.ensures ∙ ap (λ state. action_in (channel_of state) c.args.event.now.what) c.line.ensures.state) (c.fail-in-Expired.ensures c.args.before.now.items (c.charged_on.ensures.charged c.args.event.now.moment))

pub returns-in-NewCall : goal.returns-in-NewCall
returns-in-NewCall g c = as_acted (step_context c.args.subs.now.opening c.args.before.now.items c.args.machine.now c.args.event.now.line c.args.event.now.moment) c.args.event.now.what (action_at c.args.machine.now c.args.event.now) c.new_call.result NewCall (c.in-NewCall.ensures ∙ ap (λ state. action_in (channel_of state) c.args.event.now.what) c.line.ensures.state) (c.new_call.ensures c.args.before.now.items (c.in_force.ensures ∙ c.requires.force))

pub returns-in-Collision : goal.returns-in-Collision
returns-in-Collision g c = as_acted (step_context c.args.subs.now.opening c.args.before.now.items c.args.machine.now c.args.event.now.line c.args.event.now.moment) c.args.event.now.what (action_at c.args.machine.now c.args.event.now) c.collision.result Collision (c.in-Collision.ensures ∙ ap (λ state. action_in (channel_of state) c.args.event.now.what) c.line.ensures.state) (c.collision.ensures c.args.before.now.items (c.in_force.ensures ∙ c.requires.force) (c.charged_on.ensures.charged c.args.event.now.moment))

pub returns-in-Answer : goal.returns-in-Answer
returns-in-Answer g c = as_acted (step_context c.args.subs.now.opening c.args.before.now.items c.args.machine.now c.args.event.now.line c.args.event.now.moment) c.args.event.now.what (action_at c.args.machine.now c.args.event.now) c.answer.result Answer (c.in-Answer.ensures ∙ ap (λ state. action_in (channel_of state) c.args.event.now.what) c.line.ensures.state) (c.answer.ensures c.args.before.now.items (c.in_force.ensures ∙ c.requires.force) (c.charged_on.ensures.charged c.args.event.now.moment))

pub returns-in-Confirm : goal.returns-in-Confirm
returns-in-Confirm g c = as_acted (step_context c.args.subs.now.opening c.args.before.now.items c.args.machine.now c.args.event.now.line c.args.event.now.moment) c.args.event.now.what (action_at c.args.machine.now c.args.event.now) c.confirm.result Confirm (c.in-Confirm.ensures ∙ ap (λ state. action_in (channel_of state) c.args.event.now.what) c.line.ensures.state) (c.confirm.ensures c.args.before.now.items (c.charged_on.ensures.charged c.args.event.now.moment))
