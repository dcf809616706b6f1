use Rattle.std.proofs.Common.{rules}
use Rattle.xp_outbox.proofs.Steps.{begins, splits}
use Rattle.xp_outbox.proofs.put.outbox.Goals as goal

pub ruled-requires-clause-rule : goal.ruled-requires-clause-rule
ruled-requires-clause-rule g c = begins

pub another-taking-requires-clause-rule : goal.another-taking-requires-clause-rule
another-taking-requires-clause-rule g c = splits _ _ (search rules) (search rules)
