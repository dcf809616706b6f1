use denote.Shadow.{shadow}
use denote.Text.{Utf8}
use Rattle.xp_explain.proofs.telling.push_names.Given as goal

-- what stands before a name is text
abbrev pub invariant-loop-line : goal.invariant-loop-line
invariant-loop-line l = shadow (Utf8 l.before)
