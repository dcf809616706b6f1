use Rattle.xp_lock.specs.Closing.{HasAll}
use Rattle.xp_lock.proofs.missing.first_missing.Given as goal

abbrev pub invariant-loop-line : goal.invariant-loop-line
invariant-loop-line g l = HasAll l.line l.fn.passes
