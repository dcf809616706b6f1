use Rattle.std.proofs.Common.{subst, sym}
use Rattle.xp_lines.specs.Sessions.{AreMoved}
use Rattle.xp_lines.specs.steps.Serving.{EndsFor, first_of}
use Rattle.xp_lines.proofs.served_line.ServedLine.into_end.Goals as goal

pub returns : goal.returns
returns g c =
    subst (λ pass. EndsFor g.N.Name.subs (AreMoved g.P.Link.Link.pushed g.P.Link.Link.pulled) c.args.self c.why_of-why.result pass) (sym c.into_pass.ensures)
    (subst (λ first. EndsFor g.N.Name.subs (AreMoved g.P.Link.Link.pushed g.P.Link.Link.pulled) first c.why_of-why.result c.self.inside.seat.pass) c.self.view_is
    (c.why_of-why.ensures g.N.Name.subs (first_of c.self.inside.first.items) c.self.inside.seat.pass c.self.invariant))
