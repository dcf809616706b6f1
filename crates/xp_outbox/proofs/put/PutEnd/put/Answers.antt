use Rattle.std.proofs.Common.{ap}
use Rattle.xp_outbox.proofs.Steps.{learns_none, puts}
use Rattle.xp_outbox.proofs.put.PutEnd.put.Goals as goal

pub push_as-requires-clause-rule : goal.push_as-requires-clause-rule
push_as-requires-clause-rule g c = (puts _ _ _ _ (ap (λ v. v.puts) c.loop.invariant.known), learns_none _ _)
