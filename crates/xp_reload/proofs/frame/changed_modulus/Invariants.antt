use Rattle.std.proofs.Common.{◌≡◌, ◌<◌, ℕ}
use Rattle.xp_subs.specs.Tables.{modulus_of}
use Rattle.xp_reload.proofs.frame.changed_modulus.Given as goal

abbrev pub invariant-loop-number : goal.invariant-loop-number
invariant-loop-number l = (line : ℕ) → line < l.number → modulus_of l.new line ≡ modulus_of l.old line
