use Rattle.std.proofs.Common.{◌≡◌, ◌++◌, drop}
use Rattle.xp_subs.specs.steps.Places.{numbers_in}
use Rattle.xp_subs.proofs.subs.Subs.numbers_in.Given as goal

abbrev pub invariant-loop-line : goal.invariant-loop-line
invariant-loop-line l = l.numbers.items ++ numbers_in l.self (drop l.line-index l.lines) ≡ numbers_in l.self l.lines
