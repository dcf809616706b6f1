use Rattle.std.proofs.Common.{[], length, refl, rules, arith}
use Rattle.xp_words.proofs.FieldLemmas.{one_more, the_rest}
use Rattle.xp_words.proofs.field.FieldWordsDisplay.fmt.Goals as goal

pub loop-facility-init : goal.loop-facility-init
loop-facility-init g c plain =
    record { done = []; most = length c.args.self.now.0.now; written = search rules; enough = omega arith; whole = refl }

pub loop-facility-preserved : goal.loop-facility-preserved
loop-facility-preserved g c plain =
    one_more _ _ _ _ _ _ _ (c.loop-facility.invariant plain) c.in-Some.ensures.facility c.in-Some.ensures.shorter (search rules)

pub returns-clause-writes : goal.returns-clause-writes
returns-clause-writes g c plain ok = the_rest _ _ _ _ _ (c.loop-facility.invariant plain) (search rules) (search rules)
