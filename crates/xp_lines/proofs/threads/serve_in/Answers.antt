use Rattle.std.proofs.Common.{map, subst, sym, ◌∙◌}
use Rattle.xp_links.specs.Pairs.{AreEach}
use Rattle.xp_lines.specs.Sessions.{AreMoved}
use Rattle.xp_lines.specs.steps.Serving.{EndsSo}
use Rattle.xp_lines.proofs.Served.{each_down, each_served, same_lines}
use Rattle.xp_lines.proofs.threads.serve_in.Goals as goal

pub returns : goal.returns
returns g c =
    let firsts = map (λ line. line.pass) c.args.lines.lines.items in
    let lines = sym c.begin_all-begun.ensures.lines ∙ c.into_iter-left.ensures.rest ∙ c.served_of.ensures.lines in
    let each = subst (λ lines. AreEach (EndsSo g.N.Name.subs (AreMoved g.P.Link.Link.pushed g.P.Link.Link.pulled)) lines c.end_all.result.items) lines c.end_all.ensures in
    let served = each_served _ _ firsts c.end_all.result.items each in
    record {
      ok = same_lines _ _ (λ line. line.pass) (λ end. end.pass) c.args.lines.lines.items c.end_all.result.items served;
      served = served;
      stopped = each_down _ _ firsts c.end_all.result.items each;
      recorded = c.keep_recording-path.ensures;
      err = tt;
      kept = tt;
    }
