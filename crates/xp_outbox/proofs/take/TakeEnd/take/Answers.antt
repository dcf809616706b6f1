use Rattle.std.proofs.Common.{ap}
use Rattle.xp_outbox.proofs.Steps.{finds_none, takes}
use Rattle.xp_outbox.proofs.take.TakeEnd.take.Goals as goal

pub pop_as-requires-clause-rule : goal.pop_as-requires-clause-rule
pop_as-requires-clause-rule g c = (takes _ _ (ap (λ v. v.takes) c.self.invariant.1), finds_none _ _ (ap (λ v. v.takes) c.self.invariant.1))
