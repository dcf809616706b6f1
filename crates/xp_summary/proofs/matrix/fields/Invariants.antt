use Rattle.std.specs.String.{string_bytes}
use Rattle.xp_summary.specs.Matrix.{AreFields}
use Rattle.xp_summary.proofs.matrix.fields.Given as goal

-- the fields so far
abbrev pub invariant-loop-called : goal.invariant-loop-called
invariant-loop-called l = AreFields l.subs l.caller l.first l.called (string_bytes l.fields)
