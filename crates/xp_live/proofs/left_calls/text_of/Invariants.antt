use Rattle.std.specs.Prelude.{◌≡◌, flat_map}
use Rattle.std.proofs.Common.{take}
use Rattle.xp_live.specs.steps.LeftCalls.{text_in}
use Rattle.xp_live.proofs.left_calls.text_of.Given as goal

abbrev pub invariant-loop-line : goal.invariant-loop-line
invariant-loop-line l = l.text.items ≡ flat_map text_in (take l.line-index l.lines)
