use Rattle.std.proofs.Common.{subst, sym}
use Rattle.xp_subs.specs.Tables.{modulus_of}
use Rattle.xp_lines.specs.declared.line_state.LineState.TheVariants as states
use Rattle.xp_lines.specs.declared.line.EndReason.TheVariants.{Stopped}
use Rattle.xp_lines.specs.steps.Serving.{StaysSo, WritesOn}
use Rattle.xp_lines.proofs.Serving.{writes_all, writes_more}
use Rattle.xp_lines.proofs.served_line.write_state.Goals as goal

pub returns-in-Some : goal.returns-in-Some
returns-in-Some g c =
    subst (λ state. StaysSo g.N.Name.subs g.L.Link.pushed g.L.Link.pulled state c.args.seat.now.pass (states.Stopped c.in-Some.rest) c.write_rest.new.seat.pass) (sym c.in-Stopped.is)
    (writes_more g.N.Name.subs g.L.Link.pushed g.L.Link.pulled c.in-Stopped.rest c.args.seat.now.pass c.in-Some.rest c.write_rest.new.seat.pass
    (subst (λ result. WritesOn (modulus_of g.N.Name.subs c.args.seat.now.pass.line) g.L.Link.pushed c.in-Stopped.rest c.args.seat.now.pass result c.write_rest.new.seat.pass) c.in-Some.is c.write_rest.ensures))

pub returns-in-None : goal.returns-in-None
returns-in-None g c =
    subst (λ state. StaysSo g.N.Name.subs g.L.Link.pushed g.L.Link.pulled state c.args.seat.now.pass (states.Ended Stopped) c.write_rest.new.seat.pass) (sym c.in-Stopped.is)
    (writes_all g.N.Name.subs g.L.Link.pushed g.L.Link.pulled c.in-Stopped.rest c.args.seat.now.pass c.write_rest.new.seat.pass
    (subst (λ result. WritesOn (modulus_of g.N.Name.subs c.args.seat.now.pass.line) g.L.Link.pushed c.in-Stopped.rest c.args.seat.now.pass result c.write_rest.new.seat.pass) c.in-None.is c.write_rest.ensures))
