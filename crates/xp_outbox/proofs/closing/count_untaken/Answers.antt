use Rattle.std.proofs.Common.{ap, rules}
use Rattle.xp_outbox.proofs.Steps.{joins, rests, splits}
use Rattle.xp_outbox.proofs.closing.count_untaken.Goals as goal

pub absorb-requires-clause-rule : goal.absorb-requires-clause-rule
absorb-requires-clause-rule g c = joins _ _ _ _ (ap (λ v. v.puts) c.put.invariant.1) (ap (λ v. v.takes) c.taken.invariant.1)

pub len_as-rest-requires-clause-rule : goal.len_as-rest-requires-clause-rule
len_as-rest-requires-clause-rule g c = rests _ _ (search rules) (search rules)

pub another-requires-clause-rule : goal.another-requires-clause-rule
another-requires-clause-rule g c = splits _ _ (search rules) (search rules)
