use Rattle.std.proofs.Common.{◌≡◌}
use Rattle.xp_serve.proofs.watching.OperatorWatch.tell_notices.Given as goal

abbrev pub invariant-loop-notice : goal.invariant-loop-notice
invariant-loop-notice g l = l.self.source ≡ l.initial.self.source
