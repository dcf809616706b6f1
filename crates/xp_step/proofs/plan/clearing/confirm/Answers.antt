use Rattle.std.proofs.Common.{rules, ◌≡◌, ◌∙◌, [], ◌∷◌, ◌++◌, option_to_list, ℕ, Ok, ap, refl}
use Rattle.xp_channel.specs.declared.action.Action.TheVariants.{Confirm}
use Rattle.xp_step.specs.steps.ReceivedPackets.{clear_of}
use Rattle.xp_step.specs.EventLine.{event_line_context}
use Rattle.xp_step.specs.EventOutputs.{confirm_own}
use Rattle.xp_machine.specs.World.{call_on}
use Rattle.xp_step.proofs.Clearings.{confirmed}
use Rattle.xp_step.proofs.Events.{confirm_planned, no_clear_planned}
use Rattle.xp_step.proofs.Leaving.{leaving}
use Rattle.xp_step.proofs.plan.clearing.confirm.Goals as goal

pub returns-in_default : goal.returns-in_default
returns-in_default g c before found =
    no_clear_planned (event_line_context c.args.found.now before) c.args.what.now Confirm c.nothing.result c.in_default.ensures (c.nothing.ensures before)

pub returns : goal.returns
returns g c before found =
    let at = event_line_context c.args.found.now before in
    let own = confirm_own at (call_on at.world at.line) in
    let far = option_to_list c.in_ok-far.far in
    let put : c.changing.result.outputs.outputs ≡ (c.confirm_own-own.result ∷ []) ++ far = search rules in
    let left = c.withdraw-withdrawal.ensures before found in
    let plain = leaving c.changing.result at (own ∷ []) far c.withdraw-withdrawal.result _ (search (rules, left))
    (put ∙ ap (λ o. (o ∷ []) ++ far) (c.confirm_own-own.ensures before found))
    (search rules) (search rules) (search rules) (search rules) (search rules) in
    confirm_planned {E = ℕ} at c.args.what.now Confirm (Ok c.changing.result) (clear_of c.in-Some.clear) refl c.in-Some.ensures
    (confirmed at (clear_of c.in-Some.clear) c.changing.result far plain.plain plain.quiet (c.in_ok-far.ensures before found) plain.planned)
