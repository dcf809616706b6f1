use Rattle.std.proofs.Common.{rules, ◌≡◌, ◌∙◌, is_none, true, false, None, Some, ap, subst, sym}
use Rattle.xp_packets.specs.declared.end.End.{End}
use Rattle.xp_relay.specs.Coupled.{received_by, sent_by}
use Rattle.xp_relay.specs.StoredCoupled.{Follows, RepresentsCall}
use Rattle.xp_relay.specs.Turns.{turn_of}
use Rattle.xp_machine.specs.CallEnds.{end_of}
use Rattle.xp_machine.specs.declared.relays.MeteredRelay.{MeteredRelay}
use Rattle.xp_step.specs.EventLine.{event_line_context}
use Rattle.xp_machine.specs.StoredState.{call_of_stored, entry_of}
use Rattle.xp_machine.specs.Relays.{Counts, relay_under}
use Rattle.xp_machine.specs.Segments.{judged}
use Rattle.xp_machine.specs.World.{call_on}
use Rattle.xp_step.proofs.Carrying.{both_ok, goes_beyond, goes_through, in_no_call, never_lost, none_of, of_no_packet, some_of, unconnected}
use Rattle.xp_step.proofs.Leaving.{in_call, not_in_call}
use Rattle.xp_step.proofs.plan.relaying.carry.Goals as goal

pub returns-in_default : goal.returns-in_default
returns-in_default g c before found carried =
    let at = event_line_context c.args.found.now before in
    in_no_call at c.args.what.now c.none.result (not_in_call at c.args.found.now.charged found c.in_default.is) (search rules) (search rules) (search rules)

pub returns-in_default-packet_in : goal.returns-in_default-packet_in
returns-in_default-packet_in g c before found carried =
    of_no_packet (event_line_context c.args.found.now before) c.args.what.now c.none-in_default-packet_in.result c.in_default-packet_in.ensures (search rules) (search rules) (search rules)

pub returns-then-is_none : goal.returns-then-is_none
returns-then-is_none g c before found carried =
    let at = event_line_context c.args.found.now before in
    let call = c.in-Some.call.now in
    let same : c.in-Some.field-0.call.now ≡ call = search (rules, c.in-Some.call-is) in
    let on : call_on at.world at.line ≡ Some (entry_of call) = in_call at c.args.found.now.charged found c.in-Some.field-0 c.in-Some.is ∙ ap (λ k. Some (entry_of k)) same in
    let none : is_none call.agreed ≡ true = search rules in
    unconnected at c.args.what.now c.none-then-is_none.result call on c.in-Some-packet_in.packet.now c.in-Some-packet_in.ensures (none_of call.agreed none) (search rules) (search rules) (search rules)

pub returns-in_default-under : goal.returns-in_default-under
returns-in_default-under g c before found carried =
    let at = event_line_context c.args.found.now before in
    let call = c.in-Some.call.now in
    let same : c.in-Some.field-0.call.now ≡ call = search (rules, c.in-Some.call-is) in
    let on : call_on at.world at.line ≡ Some (entry_of call) = in_call at c.args.found.now.charged found c.in-Some.field-0 c.in-Some.is ∙ ap (λ k. Some (entry_of k)) same in
    let some : is_none call.agreed ≡ false = search rules in
    let it = some_of call.agreed some in
    let none : None ≡ relay_under c.args.relays.now call.caller = search (rules, c.in_default-under.ensures) in
    absurd (never_lost at call on it.0 it.1 c.args.relays.now carried none)

pub returns-in_default-count : goal.returns-in_default-count
returns-in_default-count g c before found carried =
    let at = event_line_context c.args.found.now before in
    let call = c.in-Some.call.now in
    let packet = c.in-Some-packet_in.packet.now in
    let kept = c.in-Some-under.metered.now in
    let same : c.in-Some.field-0.call.now ≡ call = search (rules, c.in-Some.call-is) in
    let on : call_on at.world at.line ≡ Some (entry_of call) = in_call at c.args.found.now.charged found c.in-Some.field-0 c.in-Some.is ∙ ap (λ k. Some (entry_of k)) same in
    let some : is_none call.agreed ≡ false = search rules in
    let it = some_of call.agreed some in
    let here : c.end_of-here.result ≡ end_of (call_of_stored call) at.line = search (rules, c.end_of-here.ensures) in
    let under : Some kept ≡ relay_under c.args.relays.now call.caller = search (rules, c.in-Some-under.ensures) in
    both_ok c.exceed.result _ _ _ (λ plan outcome planned.
    goes_beyond at c.args.what.now plan call on packet c.in-Some-packet_in.ensures it.0 it.1 c.args.relays.now carried kept under
    c.count.result c.in_default-count.field-0 c.in_default-count.is
    (λ shown shows. let P : End → Type 0 = λ e. Counts kept.meter e (judged packet (sent_by e shown) (received_by e shown)) c.count.result in
    subst P here (c.count.ensures shown shows))
    outcome planned.0 planned.1) c.exceed.ensures.outcome (c.exceed.ensures.planned before found)

pub returns : goal.returns
returns g c before found carried =
    let at = event_line_context c.args.found.now before in
    let call = c.in-Some.call.now in
    let packet = c.in-Some-packet_in.packet.now in
    let kept = c.in-Some-under.metered.now in
    let same : c.in-Some.field-0.call.now ≡ call = search (rules, c.in-Some.call-is) in
    let on : call_on at.world at.line ≡ Some (entry_of call) = in_call at c.args.found.now.charged found c.in-Some.field-0 c.in-Some.is ∙ ap (λ k. Some (entry_of k)) same in
    let some : is_none call.agreed ≡ false = search rules in
    let it = some_of call.agreed some in
    let here : c.end_of-here.result ≡ end_of (call_of_stored call) at.line = search (rules, c.end_of-here.ensures) in
    let under : Some kept ≡ relay_under c.args.relays.now call.caller = search (rules, c.in-Some-under.ensures) in
    goes_through at c.args.what.now c.carrying.result call on packet c.in-Some-packet_in.ensures it.0 it.1 c.args.relays.now carried kept under
    c.count.result c.in-Ok.meter c.in-Ok.is
    (λ shown shows. let P : End → Type 0 = λ e. Counts kept.meter e (judged packet (sent_by e shown) (received_by e shown)) c.count.result in
    subst P here (c.count.ensures shown shows))
    c.take.new.self.relay c.in_ok-moves.moves.moves
    (λ shown shows.
    let F : End → Type 0 = λ e. Follows e (turn_of e packet) shown c.take.new.self.relay c.in_ok-moves.moves.moves in
    let S : MeteredRelay _ → Type 0 = λ m. RepresentsCall m.relay shown in
    subst F here (c.in_ok-moves.ensures.ok shown (subst S (sym c.in_ok-metered.ensures) shows)))
    (search rules) (search rules) (search rules) (search rules) (search rules) (search rules)
