use Rattle.std.proofs.Common.{◌≡◌, drop}
use Rattle.xp_serve.specs.Ends.{first_early_end}
use Rattle.xp_serve.proofs.ends.first_early_end.Given as goal

abbrev pub invariant-loop-line : goal.invariant-loop-line
invariant-loop-line l = first_early_end l.line (drop l.line l.end_reasons) ≡ first_early_end 0 l.end_reasons
