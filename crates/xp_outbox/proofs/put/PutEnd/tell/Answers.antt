use Rattle.std.proofs.Common.{ap, rules}
use Rattle.xp_outbox.proofs.Steps.{joins, moves, splits}
use Rattle.xp_outbox.proofs.put.PutEnd.tell.Goals as goal

pub another-taking-requires-clause-rule : goal.another-taking-requires-clause-rule
another-taking-requires-clause-rule g c = moves _ _ (ap (λ v. v.takes) c.end.invariant.1) (ap (λ v. v.puts) c.end.invariant.1)

pub absorb-requires-clause-rule : goal.absorb-requires-clause-rule
absorb-requires-clause-rule g c = joins _ _ _ _ (ap (λ v. v.puts) c.self.invariant.1) (ap (λ v. v.takes) c.another-taking.ensures.rule.1)

pub another-requires-clause-rule : goal.another-requires-clause-rule
another-requires-clause-rule g c = splits _ _ (search rules) (search rules)
