use Rattle.std.proofs.Common.{rules, ◌≡◌, ◌∙◌, ◌++◌, option_to_list, ap}
use Rattle.xp_causes.specs.declared.clearing_cause.TheConstants.{OUT_OF_ORDER}
use Rattle.xp_causes.specs.declared.diagnostic.TheConstants.{NO_ADDITIONAL_INFORMATION}
use Rattle.xp_step.specs.Acts.{closed}
use Rattle.xp_step.specs.EventLine.{event_line_context}
use Rattle.xp_step.specs.EventOutputs.{clear_far}
use Rattle.xp_machine.specs.World.{call_on}
use Rattle.xp_step.proofs.Leaving.{leaving}
use Rattle.xp_step.proofs.plan.clearing.fall.Goals as goal

pub returns : goal.returns
returns g c before found =
    let at = event_line_context c.args.found.now before in
    let own = closed at.world at.line c.args.what.now in
    let far = clear_far at (call_on at.world at.line) OUT_OF_ORDER NO_ADDITIONAL_INFORMATION in
    let put : c.changing.result.outputs.outputs ≡ option_to_list c.closing-own.result ++ option_to_list c.clear_far-far.result = search rules in
    leaving c.changing.result at own far c.withdraw-withdrawal.result _ (c.withdraw-withdrawal.ensures before found)
    (put ∙ ap (λ o. o ++ option_to_list c.clear_far-far.result) c.closing-own.ensures ∙ ap (λ f. own ++ f) (c.clear_far-far.ensures before found))
    (search rules) (search rules) (search rules) (search rules) (search rules)
