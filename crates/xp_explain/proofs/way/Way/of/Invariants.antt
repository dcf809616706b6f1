use Rattle.std.proofs.Common.{◌≡◌, length, map}
use Rattle.xp_decide.specs.Routes.{Follows}
use Rattle.xp_explain.specs.Way.{hop_of}
use Rattle.xp_explain.proofs.way.Way.of.Given as goal

-- the redirections so far are those of the rules
abbrev pub invariant-loop-hop : goal.invariant-loop-hop
invariant-loop-hop g l =
    Follows l.subs (g.L.Lines.states l.lines) l.wanted l.dialled (map hop_of l.hops.items) l.last
    × (length l.hops.items ≡ l._hop)
