use Rattle.xp_decide.proofs.Hops.{IsOnWay}
use Rattle.xp_decide.proofs.route.reach.Given as goal

abbrev pub invariant-loop-hops : goal.invariant-loop-hops
invariant-loop-hops g l = IsOnWay l.subs (g.L.Lines.states l.lines) l.wanted l.dialled l._hops l.address l.reason
