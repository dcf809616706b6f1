use Rattle.std.proofs.Common.{subst, sym, ap, ◌∙◌}
use Rattle.xp_lines.specs.Sessions.{AreMoved}
use Rattle.xp_lines.specs.steps.Serving.{EndsSo}
use Rattle.xp_lines.specs.steps.Threads.{Adds, lines_of}
use Rattle.xp_lines.proofs.threads.end_one.Goals as goal

pub returns-in-Ok-clause-adds : goal.returns-in-Ok-clause-adds
returns-in-Ok-clause-adds g c =
    subst (λ lines. Adds (EndsSo g.N.Name.subs (AreMoved g.P.Link.Link.pushed g.P.Link.Link.pulled)) c.args.ends.items lines c.add_ends.result.items)
    (c.join.ensures ∙ ap lines_of (sym c.in-Ok.is)) c.add_ends.ensures.adds

pub returns-in-Err-clause-adds : goal.returns-in-Err-clause-adds
returns-in-Err-clause-adds g c =
    subst (λ lines. Adds (EndsSo g.N.Name.subs (AreMoved g.P.Link.Link.pushed g.P.Link.Link.pulled)) c.args.ends.items lines c.add_unstarted.result.items)
    (c.into_iter.ensures.rest ∙ ap lines_of (sym c.in-Err.is)) c.add_unstarted.ensures.adds
