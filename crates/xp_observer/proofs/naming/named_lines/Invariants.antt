use Rattle.std.specs.Prelude.{◌≡◌, map, take}
use Rattle.xp_observer.specs.Shown.{names_at, names_in}
use Rattle.xp_observer.proofs.naming.named_lines.Given as goal

abbrev pub invariant-loop-place : goal.invariant-loop-place
invariant-loop-place l = map names_in l.lines.items ≡ map (names_at l.subs) (take l.place l.subs.lines)
