use Rattle.std.proofs.Common.{rules, [], ◌∷◌, ap, refl, sym}
use Rattle.xp_machine.specs.declared.change.Change.TheVariants as kept
use Rattle.xp_machine.specs.Changes.{IsRefused}
use Rattle.xp_machine.specs.Clearing.{refused_record}
use Rattle.xp_step.specs.EventLine.{event_line_context}
use Rattle.xp_step.specs.EventOutputs.{clear_indication, send_as}
use Rattle.xp_step.proofs.Plans.{planned}
use Rattle.xp_step.proofs.plan.request.refused.Goals as goal

pub returns-clause-planned : goal.returns-clause-planned
returns-clause-planned g c before ended far ends =
    let line = c.args.found.now.line in
    planned c.changing.result (event_line_context c.args.found.now before) c.args.cancelled ended far
    (kept.Refuse line c.args.request.now.identifier)
    (IsRefused line c.args.request.now.identifier c.args.request.now.block.now.called c.args.why)
    (send_as c.args.found.now.machine.now line c.args.request.now.identifier (clear_indication c.args.why.cause c.args.why.diagnostic) ∷ []) []
    (refused_record c.args.found.now.machine.now.next c.args.found.now.moment line c.args.request.now.block.now.called c.args.why ∷ []) ends
    (search rules) (search rules) (search rules) (search rules) (λ w. refl)
    (ap (λ number. refused_record number c.args.found.now.moment line c.args.request.now.block.now.called c.args.why ∷ []) (sym ends.next))
