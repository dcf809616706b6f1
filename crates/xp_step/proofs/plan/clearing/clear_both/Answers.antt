use Rattle.std.proofs.Common.{rules, ◌≡◌, ◌∙◌, [], ◌∷◌, ◌++◌, option_to_list, ap}
use Rattle.xp_step.specs.EventLine.{event_line_context}
use Rattle.xp_step.specs.EventOutputs.{clear_far, clear_own}
use Rattle.xp_machine.specs.World.{call_on}
use Rattle.xp_step.proofs.Leaving.{leaving}
use Rattle.xp_step.proofs.plan.clearing.clear_both.Goals as goal

pub returns : goal.returns
returns g c before found =
    let at = event_line_context c.args.found.now before in
    let own = clear_own at (call_on at.world at.line) c.args.near c.args.diagnostic in
    let far = clear_far at (call_on at.world at.line) c.args.far c.args.diagnostic in
    let put : c.changing.result.outputs.outputs ≡ (c.clear_own-own.result ∷ []) ++ option_to_list c.clear_far-other.result = search rules in
    leaving c.changing.result at (own ∷ []) far c.withdraw-withdrawal.result _ (c.withdraw-withdrawal.ensures before found)
    (put ∙ ap (λ o. (o ∷ []) ++ option_to_list c.clear_far-other.result) (c.clear_own-own.ensures before found) ∙ ap (λ f. (own ∷ []) ++ f) (c.clear_far-other.ensures before found))
    (search rules) (search rules) (search rules) (search rules) (search rules)
