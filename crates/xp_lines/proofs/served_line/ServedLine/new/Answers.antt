use Rattle.std.proofs.Common.{[], ◌∷◌, ◌++◌, None, ap, subst, sym, ◌∙◌}
use Rattle.xp_lines.specs.declared.line_state.LineState.TheVariants as states
use Rattle.xp_lines.specs.steps.Serving.{IsLineSo, first_of}
use Rattle.xp_lines.proofs.Serving.{so_first}
use Rattle.xp_lines.proofs.served_line.ServedLine.new.Goals as goal

pub invariant_of-result : goal.invariant_of-result
invariant_of-result g c =
    let items = c.and-first.ensures ∙ ap (λ before. before ++ c.args.inputs.pass ∷ []) c.new.ensures in
    subst (IsLineSo g.N.Name.subs g.P.Link.Link.pushed g.P.Link.Link.pulled (first_of c.and-first.result.items) (states.Open None)) (sym c.new-seat.ensures)
    (subst (λ passes. IsLineSo g.N.Name.subs g.P.Link.Link.pushed g.P.Link.Link.pulled (first_of passes) (states.Open None) c.args.inputs.pass) (sym items)
    (so_first g.N.Name.subs g.P.Link.Link.pushed g.P.Link.Link.pulled c.args.inputs.pass))
