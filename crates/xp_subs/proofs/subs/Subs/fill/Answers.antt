use Rattle.xp_subs.proofs.FillLemmas.{goes_on}
use Rattle.xp_subs.proofs.subs.Subs.fill.Goals as goal

pub loop-line-preserved : goal.loop-line-preserved
loop-line-preserved c =
    (c.in_ok-from.ensures.fills, goes_on _ _ _ _ _ _ _ _ _ c.loop-line.invariant.1 c.in_ok-from.ensures.goes)
