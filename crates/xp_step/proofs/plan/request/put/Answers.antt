use Rattle.std.proofs.Common.{rules, [], ◌∷◌, refl}
use Rattle.xp_machine.specs.declared.change.Change.TheVariants as kept
use Rattle.xp_machine.specs.Changes.{Begins}
use Rattle.xp_machine.specs.Channel.{INITIAL_IDENTIFIER}
use Rattle.xp_step.specs.EventLine.{event_line_context}
use Rattle.xp_step.specs.EventOutputs.{send_as}
use Rattle.xp_step.proofs.Plans.{planned}
use Rattle.xp_step.proofs.plan.request.put.Goals as goal

pub returns-clause-planned : goal.returns-clause-planned
returns-clause-planned g c before ended far ends =
    let line = c.args.found.now.line in
    planned c.changing.result (event_line_context c.args.found.now before) c.args.cancelled ended far
    (kept.Begin line c.args.request.now.identifier c.args.incoming.line c.args.request.now.block.now.called c.args.incoming.setup c.args.found.now.moment)
    (Begins line c.args.request.now.identifier c.args.incoming.line c.args.request.now.block.now.called c.args.incoming.setup c.args.found.now.moment)
    [] (send_as c.args.found.now.machine.now c.args.incoming.line INITIAL_IDENTIFIER c.args.incoming.packet ∷ []) [] ends
    (search rules) (search rules) (search rules) (search rules) (λ w. refl) refl
