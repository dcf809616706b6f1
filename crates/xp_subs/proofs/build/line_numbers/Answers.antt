use Rattle.std.proofs.Common.{ℕ, sym, arith, length-append}
use Rattle.xp_subs.proofs.FitLemmas.{numbers_more}
use Rattle.xp_subs.proofs.build.line_numbers.Goals as goal

pub loop-place-preserved : goal.loop-place-preserved
loop-place-preserved c = (
  rw (c.push.ensures.items, c.loop-place.invariant.0) (sym (numbers_more c.args.first c.loop-place.place)),
  rw c.push.ensures.items (omega (arith, length-append {A = ℕ})),
)
