use Rattle.std.proofs.Common.{◌≡◌, length}
use Rattle.xp_subs.specs.Built.{numbers}
use Rattle.xp_subs.proofs.build.line_numbers.Given as goal

abbrev pub invariant-loop-place : goal.invariant-loop-place
invariant-loop-place l = (l.numbers.items ≡ numbers l.first l.place) × (length l.numbers.items ≡ l.place)
