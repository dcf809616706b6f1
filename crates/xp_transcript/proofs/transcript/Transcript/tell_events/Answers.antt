use Rattle.std.proofs.Common.{ℕ, List, ◌∙◌, ap, sym, subst, Err, arith, length}
use Rattle.std.proofs.lemmas.List.{length-drop, nil_from_length}
use Rattle.std.proofs.lemmas.Result.{err_from_is_err_and}
use Rattle.std.specs.Io.KnownBytes.{Appends}
use Rattle.xp_transcript.specs.steps.Telling.{TellsEvents}
use Rattle.xp_transcript.proofs.Told.{next_fits, so_far_all, so_far_broken, so_far_more, so_far_none}
use Rattle.xp_transcript.proofs.transcript.Transcript.tell_events.Goals as goal

pub loop-event-init : goal.loop-event-init
loop-event-init g c = so_far_none _ _ _ c.requires

pub tell_event-requires : goal.tell_event-requires
tell_event-requires g c = next_fits _ _ _ _ _ _ _ _ c.loop-event.invariant c.in-Some.ensures.items

pub loop-event-preserved : goal.loop-event-preserved
loop-event-preserved g c = so_far_more _ _ _ _ _ _ _ _ _ _ c.loop-event.invariant c.in-Some.ensures.items c.in_ok-tell_event.ensures

pub returns-in_err-tell_event : goal.returns-in_err-tell_event
returns-in_err-tell_event g c =
    let p = err_from_is_err_and c.from_residual.result c.from_residual.ensures.1 in
    subst (λ result. (text : List ℕ) × Appends (g.W.Write.contents c.args.writer.now) (g.W.Write.contents c.tell_event.new.writer) text × TellsEvents c.args.self.now c.args.events.now.items result c.tell_event.new.self text)
    (sym (p.1 ∙ ap Err p.2))
    (so_far_broken c.args.self.now c.args.events.now.items _ _ c.in-Some.event _ c.tell_event.new.self _ _ _ c.in_err-tell_event.field-0.0 c.loop-event.invariant c.in-Some.ensures.items c.in_err-tell_event.ensures)

pub returns : goal.returns
returns g c =
    let left = c.loop-event.events.items in
    let none = nil_from_length left (omega (arith, ap length c.in_default.ensures.items, ap length c.in_default.ensures.rest, length-drop 1 left, length-drop 1 c.pop_front.new.self.items)) in
    so_far_all _ _ _ _ _ _ c.loop-event.invariant none
