use Rattle.std.proofs.Common.{ℕ, List, ◌∙◌, ap, sym, subst, Err, arith, length}
use Rattle.std.proofs.lemmas.List.{length-drop, nil_from_length}
use Rattle.std.proofs.lemmas.Result.{err_from_is_err_and}
use Rattle.std.specs.Io.KnownBytes.{Appends}
use Rattle.xp_exchange.specs.steps.Acting.{Acted}
use Rattle.xp_exchange.proofs.SoFar.{so_far_none, next_fits, so_far_more, so_far_all, so_far_broken}
use Rattle.xp_exchange.proofs.acting.act_on_all.Goals as goal

pub loop-event-init : goal.loop-event-init
loop-event-init g c = so_far_none _ _ _ c.requires

pub act_on-requires-clause-line : goal.act_on-requires-clause-line
act_on-requires-clause-line g c = (next_fits _ _ _ _ _ _ _ _ c.loop-event.invariant c.in-Some.ensures.items).0

pub act_on-requires-clause-comes : goal.act_on-requires-clause-comes
act_on-requires-clause-comes g c = (next_fits _ _ _ _ _ _ _ _ c.loop-event.invariant c.in-Some.ensures.items).1

pub loop-event-preserved : goal.loop-event-preserved
loop-event-preserved g c = so_far_more _ _ _ _ _ _ _ _ _ _ c.loop-event.invariant c.in-Some.ensures.items c.in_ok-act_on.ensures.acted

pub returns-in_err-act_on-clause-acted : goal.returns-in_err-act_on-clause-acted
returns-in_err-act_on-clause-acted g c =
    let p = err_from_is_err_and c.from_residual.result c.from_residual.ensures.1 in
    subst (λ result. (text : List ℕ) × Appends (g.W.Write.contents c.args.writer.now) (g.W.Write.contents c.act_on.new.writer) text × Acted c.args.core.now c.args.events.now.items result c.act_on.new.core text)
    (sym (p.1 ∙ ap Err p.2))
    (so_far_broken c.args.core.now c.args.events.now.items _ _ c.in-Some.event _ c.act_on.new.core _ _ _ c.in_err-act_on.field-0.0 c.loop-event.invariant c.in-Some.ensures.items c.in_err-act_on.ensures.acted)

pub returns-clause-acted : goal.returns-clause-acted
returns-clause-acted g c =
    let left = c.loop-event.events.items in
    let none = nil_from_length left (omega (arith, ap length c.in_default.ensures.items, ap length c.in_default.ensures.rest, length-drop 1 left, length-drop 1 c.pop_front.new.self.items)) in
    so_far_all _ _ _ _ _ _ c.loop-event.invariant none

pub returns-in_err-act_on-clause-subs : goal.returns-in_err-act_on-clause-subs
returns-in_err-act_on-clause-subs g c = c.in_err-act_on.ensures.subs ∙ c.loop-event.invariant.acts.subs

pub returns-clause-subs : goal.returns-clause-subs
returns-clause-subs g c = c.loop-event.invariant.acts.subs
