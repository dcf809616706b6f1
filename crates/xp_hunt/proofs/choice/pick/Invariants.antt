use Rattle.xp_hunt.proofs.Looked.{IsLooked}
use Rattle.xp_hunt.proofs.choice.pick.Given as goal

abbrev pub invariant-loop-line : goal.invariant-loop-line
invariant-loop-line g l = IsLooked (g.L.Lines.states l.lines) l.group l.line-index l.found
