use Rattle.std.proofs.Common.{◌≡◌, drop}
use Rattle.xp_lock.specs.Given.{is_among}
use Rattle.xp_lock.proofs.given.is_there.Given as goal

abbrev pub invariant-loop-other : goal.invariant-loop-other
invariant-loop-other l = is_among l.line l.fn.lines ≡ is_among l.line (drop l.other-index l.fn.lines)
