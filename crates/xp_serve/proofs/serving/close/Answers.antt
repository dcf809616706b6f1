use Rattle.std.proofs.Common.{ap, arith, length, map, subst, sym, ◌∙◌}
use Rattle.std.proofs.lemmas.List.{length-map}
use Rattle.xp_lock.specs.Passes.{IsLegal}
use Rattle.xp_serve.specs.Ends.{first_early_end}
use Rattle.xp_serve.specs.steps.Serving.{WereServed}
use Rattle.xp_links.specs.Pairs.{AreEach}
use Rattle.xp_serve.specs.Served.{IsDownIfStopped}
use Rattle.xp_serve.proofs.Passes.{each_end, served_brought, served_count, served_in_order, served_none_missing}
use Rattle.xp_serve.proofs.serving.close.Goals as goal

pub end_reasons_of-end_reasons-requires-clause-room : goal.end_reasons_of-end_reasons-requires-clause-room
end_reasons_of-end_reasons-requires-clause-room g c =
    let ends = c.args.lines.ends.items in
    let many = served_count g.N.Name.subs (map (λ end. end.pass) ends) c.requires.served in
    let each = length-map ends (λ end. end.pass) in
    let shown = ap length c.deref.ensures.value in
    let none = ap length c.requires.room_of_reasons.0 in
    let len = c.args.room_of_reasons.ok.0 in
    let room = c.requires.room_of_reasons.1 in
    omega (arith, many, each, shown, none, len, room)

pub first_early_end-early_end-requires : goal.first_early_end-early_end-requires
first_early_end-early_end-requires g c =
    let ends = c.args.lines.ends.items in
    let many = served_count g.N.Name.subs (map (λ end. end.pass) ends) c.requires.served in
    let each = length-map ends (λ end. end.pass) in
    let shown = ap length c.deref.ensures.value in
    let reasons = ap length (c.deref-2.ensures.value ∙ c.end_reasons_of-end_reasons.ensures) in
    let count = length-map c.deref.result.now (λ end. end.why) in
    let few = c.requires.few in
    omega (arith, many, each, shown, reasons, count, few)

pub passes_of-requires-clause-room : goal.passes_of-requires-clause-room
passes_of-requires-clause-room g c =
    let ends = c.args.lines.ends.items in
    let many = served_count g.N.Name.subs (map (λ end. end.pass) ends) c.requires.served in
    let each = length-map ends (λ end. end.pass) in
    let all = c.args.lines.ends.ok.0 in
    let none = ap length c.requires.room.0 in
    let len = c.args.room.ok.0 in
    let room = c.requires.room.1 in
    omega (arith, many, each, all, none, len, room)

pub unreachable-requires : goal.unreachable-requires
unreachable-requires g c =
    served_none_missing g.N.Name.subs c.passes_of.result.items (subst (WereServed g.N.Name.subs) (sym c.passes_of.ensures) c.requires.served)
    c.in_default.field-0.line c.in_default.ensures.missing

pub returns-clause-served : goal.returns-clause-served
returns-clause-served g c =
    let closed = c.in-Ok.ensures in
    let subs = g.N.Name.subs in
    let ends = c.args.lines.ends.items in
    let passes = c.passes_of.result.items in
    let served = subst (WereServed subs) (sym c.passes_of.ensures) c.requires.served in
    record {
      subs = closed.subs;
      legal = subst (λ tables. IsLegal tables c.in-Ok.book.history) closed.subs closed.legal;
      passes = passes;
      in_order = served_in_order subs passes served;
      brought = served_brought subs passes served;
      matched = closed.told;
      together = closed.together;
      counted = closed.taken;
      each_ended =
          ap length c.end_reasons_of-end_reasons.ensures ∙ length-map c.deref.result.now (λ end. end.why) ∙ ap length c.deref.ensures.value
          ∙ sym (length-map ends (λ end. end.pass)) ∙ served_count subs (map (λ end. end.pass) ends) c.requires.served;
      stopped =
          subst (λ passes. AreEach (IsDownIfStopped subs) c.end_reasons_of-end_reasons.result.items passes) (sym c.passes_of.ensures)
          (subst (λ reasons. AreEach (IsDownIfStopped subs) reasons (map (λ end. end.pass) ends)) (sym (c.end_reasons_of-end_reasons.ensures ∙ ap (map (λ end. end.why)) c.deref.ensures.value))
          (each_end (IsDownIfStopped subs) ends c.requires.stopped));
      first = c.first_early_end-early_end.ensures ∙ ap (first_early_end 0) c.deref-2.ensures.value;
    }
