use Rattle.std.proofs.Common.{◌≡◌, map, take}
use Rattle.xp_door.specs.steps.Choices.{candidate_of}
use Rattle.xp_door.proofs.lines_behind.candidates_of.Given as goal

abbrev pub invariant-loop-line : goal.invariant-loop-line
invariant-loop-line l = l.candidates.items ≡ map candidate_of (take l.line-index l.lines)
