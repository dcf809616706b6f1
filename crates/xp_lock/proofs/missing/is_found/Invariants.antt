use Rattle.std.proofs.Common.{◌≡◌, drop}
use Rattle.xp_lock.specs.Closing.{has_line}
use Rattle.xp_lock.proofs.missing.is_found.Given as goal

abbrev pub invariant-loop-pass : goal.invariant-loop-pass
invariant-loop-pass g l = has_line l.line l.fn.passes ≡ has_line l.line (drop l.pass-index l.fn.passes)
