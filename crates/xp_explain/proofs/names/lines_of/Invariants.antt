use Rattle.std.proofs.Common.{map, take}
use Rattle.std.specs.Str.{trim}
use Rattle.xp_explain.specs.Names.{AreLines}
use Rattle.xp_explain.proofs.names.lines_of.Given as goal

-- the lines of the names so far
abbrev pub invariant-loop-name : goal.invariant-loop-name
invariant-loop-name l = AreLines l.subs (map (λ name. trim name.now) (take l.name-index l.names)) l.lines.items
