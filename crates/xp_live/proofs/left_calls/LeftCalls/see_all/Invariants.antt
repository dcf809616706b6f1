use Rattle.xp_live.specs.steps.LeftCalls.{AreSeen}
use Rattle.xp_live.proofs.left_calls.LeftCalls.see_all.Given as goal

abbrev pub invariant-loop-row : goal.invariant-loop-row
invariant-loop-row g l = AreSeen (g.S.Read.remaining l.fn.records) (g.S.Read.remaining l.records) l.fn.self l.self
