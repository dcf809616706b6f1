use Rattle.std.proofs.Common.{arith, sym}
use Rattle.std.proofs.lemmas.List.{length-take-le}
use Rattle.xp_cdr.proofs.NameLemmas.{short_taken}
use Rattle.xp_cdr.proofs.run.front.Goals as goal

pub slice_bounds-result-end : goal.slice_bounds-result-end
slice_bounds-result-end c = sym (length-take-le 64 c.args.text.now (omega (arith, c.if-text-gt-MOST.true)))

pub returns-then-text-gt-MOST-clause-most : goal.returns-then-text-gt-MOST-clause-most
returns-then-text-gt-MOST-clause-most c = omega (arith, length-take-le 64 c.args.text.now (omega (arith, c.if-text-gt-MOST.true)))

pub returns-else-text-gt-MOST-clause-front : goal.returns-else-text-gt-MOST-clause-front
returns-else-text-gt-MOST-clause-front c = short_taken c.args.text.now (omega (arith, c.if-text-gt-MOST.false))
