use Rattle.std.proofs.Common.{◌≡◌, ℕ, ◌<◌, true, get_or}
use Rattle.xp_subs.specs.Tables.{no_line}
use Rattle.xp_subs.specs.steps.Places.{fits}
use Rattle.xp_subs.proofs.subs.Subs.check_moduli.Given as goal

abbrev pub invariant-loop-line : goal.invariant-loop-line
invariant-loop-line l = (k : ℕ) → k < l.line-index → fits l.self (get_or l.line-items k no_line) ≡ true
