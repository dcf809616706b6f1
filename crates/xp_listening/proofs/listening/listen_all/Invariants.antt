use Rattle.std.proofs.Common.{take}
use Rattle.xp_links.specs.Pairs.{AreEach}
use Rattle.xp_listening.specs.Accesses.{IsServedAt}
use Rattle.xp_listening.proofs.listening.listen_all.Given as goal

abbrev pub invariant-loop-line : goal.invariant-loop-line
invariant-loop-line g l = AreEach (IsServedAt l.subs) (take l.line l.subs.lines) l.sockets
