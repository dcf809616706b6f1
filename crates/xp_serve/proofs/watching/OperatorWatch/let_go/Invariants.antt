use Rattle.std.proofs.Common.{◌≡◌}
use Rattle.xp_serve.proofs.watching.OperatorWatch.let_go.Given as goal

abbrev pub invariant-loop-turn : goal.invariant-loop-turn
invariant-loop-turn g l = l.self.source ≡ l.initial.self.source
