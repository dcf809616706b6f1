use Rattle.std.proofs.Common.{ap}
use Rattle.xp_outbox.proofs.Steps.{looks}
use Rattle.xp_outbox.proofs.put.PutEnd.room.Goals as goal

pub len_as-held-requires-clause-rule : goal.len_as-held-requires-clause-rule
len_as-held-requires-clause-rule g c = looks _ _ (ap (λ v. v.puts) c.self.invariant.1)
