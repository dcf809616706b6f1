use Rattle.std.proofs.Common.{rules, ◌≡◌, ◌∙◌, ℕ, Option, Some, [], ◌∷◌, ap, subst, sym}
use Rattle.xp_answer.specs.ForwardedClear.{ForwardedClear}
use Rattle.xp_facilities.specs.declared.charging_information.ChargingInformation.{ChargingInformation}
use Rattle.xp_step.specs.steps.ReceivedPackets.{clear_of}
use Rattle.xp_step.specs.EventLine.{event_line_context}
use Rattle.xp_machine.specs.StoredState.{entry_of}
use Rattle.xp_step.specs.steps.Branches.{IsToldOn}
use Rattle.xp_step.specs.EventOutputs.{far_information, send}
use Rattle.xp_machine.specs.World.{Call, call_on}
use Rattle.xp_step.proofs.Leaving.{in_call}
use Rattle.xp_step.proofs.plan.clearing.carry_on.Goals as goal

pub returns : goal.returns
returns g c before found =
    let at = event_line_context c.args.found.now before in
    let call = c.in-Some.field-0.call.now in
    let clear = clear_of c.args.clear.now in
    let packet = c.in_ok-packet.packet in
    let on : call_on at.world at.line ≡ Some (entry_of call) = in_call at c.args.found.now.charged found c.in-Some.field-0 c.in-Some.is in
    let P : Option (ℕ × Call) → Type 0 = λ f. IsToldOn at clear f (c.send.result ∷ []) in
    let C : Option ChargingInformation → Type 0 = λ i. ForwardedClear call.setup.fast clear.cause clear.diagnostic clear.block i packet in
    subst P (sym on) (
      packet,
      subst C (c.far_information-information.ensures.told before found ∙ ap (far_information at) on) (search (rules, c.in_ok-packet.ensures.carried)),
      ap (λ o. o ∷ []) (c.send.ensures ∙ ap (λ l. send at.world l packet) (search (rules, c.far_end.ensures))),
    )
