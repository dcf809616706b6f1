use Rattle.std.proofs.Common.{rules, ◌≡◌, ◌∙◌, ◌∷◌, append-nil, option_to_list, ap, sym}
use Rattle.xp_causes.specs.declared.clearing_cause.TheConstants.{OUT_OF_ORDER}
use Rattle.xp_causes.specs.declared.diagnostic.TheConstants.{NO_ADDITIONAL_INFORMATION}
use Rattle.xp_step.specs.EventLine.{event_line_context}
use Rattle.xp_step.specs.EventOutputs.{clear_far, close}
use Rattle.xp_machine.specs.World.{call_on}
use Rattle.xp_core.proofs.stalling.tell.Goals as goal

pub returns : goal.returns
returns g c before found =
    let at = event_line_context c.args.found.now before in
    let own = close at.world at.line in
    let far = clear_far at (call_on at.world at.line) OUT_OF_ORDER NO_ADDITIONAL_INFORMATION in
    let put : c.into_outputs.result ≡ own ∷ option_to_list c.clear_far-far.result = search rules in
    put ∙ ap (λ f. own ∷ f) (c.clear_far-far.ensures before found ∙ sym (append-nil far))
