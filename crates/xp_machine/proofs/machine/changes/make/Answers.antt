use Rattle.std.proofs.Common.{None, ap, arith, refl, sym, ◌+◌, ◌∙◌}
use Rattle.xp_machine.specs.declared.call.LiveCall.{LiveCall}
use Rattle.xp_machine.specs.StoredState.{stored_world}
use Rattle.xp_machine.specs.AppliedChange.{applied}
use Rattle.xp_machine.proofs.Kept.{begun_kept, begun_keyed, free_kept, line_kept, refused_kept, risen_kept}
use Rattle.xp_machine.proofs.machine.changes.make.Goals as goal

pub rise-requires : goal.rise-requires
rise-requires g c = omega (arith, c.requires.connection c.in-Rise.line, ap (λ l. l.connection) (line_kept c.args.lines.now.items c.in-Rise.line))

pub returns-in-Rise-clause-made : goal.returns-in-Rise-clause-made
returns-in-Rise-clause-made g c =
    ap (λ ls. stored_world ls c.args.calls.now c.args.next.now) c.rise.ensures
    ∙ risen_kept c.args.lines.now.items c.args.calls.now c.args.next.now c.in-Rise.line
    ∙ ap (λ change. applied change (stored_world c.args.lines.now.items c.args.calls.now c.args.next.now)) (sym c.in-Rise.is)

pub returns-in-Free-clause-made : goal.returns-in-Free-clause-made
returns-in-Free-clause-made g c =
    ap (λ ls. stored_world ls c.args.calls.now c.args.next.now) c.free.ensures
    ∙ free_kept c.args.lines.now.items c.args.calls.now c.args.next.now c.in-Free.line
    ∙ ap (λ change. applied change (stored_world c.args.lines.now.items c.args.calls.now c.args.next.now)) (sym c.in-Free.is)

pub returns-in-Begin-clause-keyed : goal.returns-in-Begin-clause-keyed
returns-in-Begin-clause-keyed g c =
    let call : LiveCall = record {
      number = c.args.next.now;
      caller = c.in-Begin.caller;
      called = c.in-Begin.called;
      dialled = c.in-Begin.dialled;
      setup = c.in-Begin.setup;
      requested = c.in-Begin.requested;
      agreed = None;
    } in
    begun_keyed c.args.lines.now.items c.args.calls.now (stored_world c.args.lines.now.items c.args.calls.now c.args.next.now) c.requires.keyed call refl c.requires.fresh
    c.put_call.new.calls c.args.calls.now.vacant_key c.put_call.ensures.calls c.put_call.ensures.free c.in-Begin.identifier _ c.put_call.ensures.lines

pub returns-in-Begin-clause-made : goal.returns-in-Begin-clause-made
returns-in-Begin-clause-made g c =
    let call : LiveCall = record {
      number = c.args.next.now;
      caller = c.in-Begin.caller;
      called = c.in-Begin.called;
      dialled = c.in-Begin.dialled;
      setup = c.in-Begin.setup;
      requested = c.in-Begin.requested;
      agreed = None;
    } in
    begun_kept c.args.lines.now.items c.args.calls.now (stored_world c.args.lines.now.items c.args.calls.now c.args.next.now) c.requires.keyed call refl c.requires.fresh
    c.put_call.new.calls c.args.calls.now.vacant_key c.put_call.ensures.calls c.put_call.ensures.free c.in-Begin.identifier _ c.put_call.ensures.lines
    ∙ ap (λ change. applied change (stored_world c.args.lines.now.items c.args.calls.now c.args.next.now)) (sym c.in-Begin.is)

pub returns-in-Refuse-clause-made : goal.returns-in-Refuse-clause-made
returns-in-Refuse-clause-made g c =
    ap (λ ls. stored_world ls c.args.calls.now (c.args.next.now + 1)) c.refuse.ensures
    ∙ refused_kept c.args.lines.now.items c.args.calls.now c.args.next.now c.in-Refuse.line c.in-Refuse.identifier
    ∙ ap (λ change. applied change (stored_world c.args.lines.now.items c.args.calls.now c.args.next.now)) (sym c.in-Refuse.is)
