use Rattle.std.proofs.Common.{◌≡◌, subst, sym}
use Rattle.xp_lines.specs.Sessions.{AreMoved}
use Rattle.xp_lines.specs.declared.line.EndReason.TheVariants.{NotStarted, Stopped}
use Rattle.xp_lines.specs.steps.Serving.{EndsFor, first_of}
use Rattle.xp_lines.proofs.Serving.{so_otherwise}
use Rattle.xp_lines.proofs.served_line.ServedLine.into_unstarted.Goals as goal

not_stopped : NotStarted ≡ Stopped → ⊥
not_stopped same = cc

pub returns : goal.returns
returns g c =
    subst (λ pass. EndsFor g.N.Name.subs (AreMoved g.P.Link.Link.pushed g.P.Link.Link.pulled) c.args.self NotStarted pass) (sym c.into_pass.ensures)
    (subst (λ first. EndsFor g.N.Name.subs (AreMoved g.P.Link.Link.pushed g.P.Link.Link.pulled) first NotStarted c.self.inside.seat.pass) c.self.view_is
    (so_otherwise g.N.Name.subs g.P.Link.Link.pushed g.P.Link.Link.pulled (first_of c.self.inside.first.items) c.self.inside.state c.self.inside.seat.pass NotStarted not_stopped c.self.invariant))
